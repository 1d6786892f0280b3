-- How keys and values, operations and replies are spelled: one spelling each.
use Rattle.std.specs.Prelude.{ℕ, zero, suc, ◌+◌, ◌/◌, ◌%◌, ◌==◌, Bool, ◌&&◌, not, nat_le, nat_lt, List, [], ◌∷◌, ◌++◌, codes, decimal, if◌then◌else◌}
use Rattle.std.specs.List.{flat_map}
use Rattle.mont_base.specs.declared.operation.Op.{Op}
use Rattle.mont_base.specs.declared.operation.Op.TheVariants as ops
use Rattle.mont_base.specs.declared.operation.Reply.{Reply}
use Rattle.mont_base.specs.declared.operation.Reply.TheVariants as replies
use Rattle.mont_base.specs.State.{Key, Value, Run}

-- the digit of a number below 16
abbrev pub hex_digit : ℕ → ℕ
hex_digit n = if nat_lt n 10 then 48 + n else 87 + n

-- a number by so many digits in base 16, that of the highest place first
abbrev pub hex_digits : ℕ → ℕ → List ℕ
hex_digits zero n = []
hex_digits (suc count) n = hex_digits count (n / 16) ++ hex_digit (n % 16) ∷ []

-- a byte that stands for itself in a text: one that can be seen, but `%`
abbrev pub is_bare : ℕ → Bool
is_bare byte = nat_le 33 byte && nat_le byte 126 && not (byte == 37)

-- any other is `%` and two digits
abbrev pub byte_word : ℕ → List ℕ
byte_word byte = if is_bare byte then byte ∷ [] else 37 ∷ hex_digits 2 byte

-- a key or a value byte by byte; the empty text is `%` alone
abbrev pub text_word : List ℕ → List ℕ
text_word [] = codes "%"
text_word (byte ∷ bytes) = flat_map byte_word (byte ∷ bytes)

abbrev pub op_words : Op → List (List ℕ)
op_words (ops.Put key value) = codes "put" ∷ text_word key ∷ text_word value ∷ []
op_words (ops.Get key) = codes "get" ∷ text_word key ∷ []
op_words (ops.Del key) = codes "del" ∷ text_word key ∷ []
op_words (ops.Enq unit item) = codes "enq" ∷ decimal unit ∷ decimal item ∷ []
op_words (ops.Deq unit) = codes "deq" ∷ decimal unit ∷ []
op_words (ops.Len unit) = codes "len" ∷ decimal unit ∷ []
op_words (ops.AddV unit vertex attr) =
    codes "addv" ∷ decimal unit ∷ decimal vertex ∷ decimal attr ∷ []
op_words (ops.DelV unit vertex) = codes "delv" ∷ decimal unit ∷ decimal vertex ∷ []
op_words (ops.AddE unit from to attr) =
    codes "adde" ∷ decimal unit ∷ decimal from ∷ decimal to ∷ decimal attr ∷ []
op_words (ops.DelE unit from to) =
    codes "dele" ∷ decimal unit ∷ decimal from ∷ decimal to ∷ []
op_words (ops.Vertex unit vertex) = codes "vertex" ∷ decimal unit ∷ decimal vertex ∷ []
op_words (ops.Degree unit vertex) = codes "degree" ∷ decimal unit ∷ decimal vertex ∷ []
op_words (ops.OPut unit key value) =
    codes "oput" ∷ decimal unit ∷ text_word key ∷ text_word value ∷ []
op_words (ops.OGet unit key) = codes "oget" ∷ decimal unit ∷ text_word key ∷ []
op_words (ops.ODel unit key) = codes "odel" ∷ decimal unit ∷ text_word key ∷ []
op_words (ops.OFloor unit key) = codes "ofloor" ∷ decimal unit ∷ text_word key ∷ []
op_words (ops.ORank unit key) = codes "orank" ∷ decimal unit ∷ text_word key ∷ []
op_words (ops.ORange unit from to most) =
    codes "orange" ∷ decimal unit ∷ text_word from ∷ text_word to ∷ decimal most ∷ []

-- The operation tells which of both a value is. After the number of a range's pairs stand the
-- pairs themselves.
abbrev pub reply_words : Reply → List (List ℕ)
reply_words replies.Nothing = codes "none" ∷ []
reply_words (replies.Was value) = codes "was" ∷ decimal value ∷ []
reply_words (replies.WasText value) = codes "was" ∷ text_word value ∷ []
reply_words (replies.Count number) = codes "count" ∷ decimal number ∷ []
reply_words replies.NoEnds = codes "noends" ∷ []
reply_words (replies.Key key) = codes "key" ∷ text_word key ∷ []
reply_words (replies.Pairs number) = codes "pairs" ∷ decimal number ∷ []

-- a key with its value
abbrev pub pair_words : Key × Value → List (List ℕ)
pair_words p = text_word p.0 ∷ text_word p.1 ∷ []

-- the pairs of a run, one after the other
abbrev pub run_words : Run → List (List ℕ)
run_words run = flat_map pair_words run
