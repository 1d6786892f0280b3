-- What the lines of a caller of the generated job ask. Lines are counted from 0, in tens.
use Rattle.std.specs.Prelude.{ℕ, ◌+◌, ◌-◌, ◌*◌, ◌/◌, ◌%◌, ◌==◌, nat_lt, List, decimal, if◌then◌else◌}
use Rattle.mont_base.specs.declared.operation.Op.{Op}
use Rattle.mont_base.specs.declared.operation.Op.TheVariants.{Put, Get, Del, Enq, AddV, AddE}

-- Each caller has 200 keys and vertices without end, which no other caller has.
abbrev pub key : ℕ → ℕ → List ℕ
key caller t = decimal (4 * (t % 200) + caller)

abbrev pub vertex : ℕ → ℕ → ℕ
vertex caller n = 4 * n + caller

-- By turns a vertex, and an edge from it to the one before it. The first has none before it, and
-- is the one end and the other.
abbrev pub graph_op : ℕ → ℕ → ℕ → Op
graph_op caller ten word =
    if ten % 2 == 0
    then AddV 5 (vertex caller (ten / 2)) word
    else AddE 5 (vertex caller (ten / 2)) (vertex caller (ten / 2 - 1)) word

-- the line at a place of a ten
abbrev pub op_at : ℕ → ℕ → ℕ → ℕ → Op
op_at caller ten place word =
    if nat_lt place 4 then Put (key caller (4 * ten + place)) (decimal word)
    else if place == 4 then Get (key caller (4 * ten))
    else if place == 5 then Del (key caller (4 * ten + 1))
    else if place == 6 then Enq 4 word
    else if place == 7 then Get (key caller (4 * ten + 1))
    else if place == 8 then graph_op caller ten word
    else Get (key caller (4 * ten + 2))

-- the line of a number, made of this word
abbrev pub op_of : ℕ → ℕ → ℕ → Op
op_of caller line word = op_at caller (line / 10) (line % 10) word
