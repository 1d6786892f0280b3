-- What the entries of a unit did, counted: how far its numbers have come, and which are at their
-- end.
use Rattle.std.specs.Prelude.{◌≡◌, ℕ, ◌+◌, ◌<◌, ◌≤◌, Bool, true, false, List, [], ◌∷◌, length, fold, max, Any, count_by, slice_get, Option, Some, None, IsSomeAnd, unwrap_or, if◌then◌else◌}
use Rattle.mont_base.specs.declared.constants.TheConstants.{LAST}
use Rattle.mont_base.specs.declared.effect.Effect.{Effect}
use Rattle.mont_base.specs.declared.effect.Effect.TheVariants.{Inserts, Replaces, Removes}
use Rattle.mont_base.specs.declared.effect.Thing.{Thing}
use Rattle.mont_base.specs.declared.effect.Thing.TheVariants.{Pair, Item, Vertex, Edge}
use Rattle.mont_base.specs.declared.operation.Entry.{Entry}
use Rattle.mont_base.specs.declared.operation.Op.{Op}
use Rattle.mont_base.specs.declared.operation.Op.TheVariants as ops
use Rattle.mont_base.specs.declared.record.Held.{Held}
use Rattle.mont_base.specs.declared.record.Object.{Object}
use Rattle.mont_base.specs.declared.refusal.Which.{Which}
use Rattle.mont_base.specs.declared.refusal.Which.TheVariants as ends
use Rattle.mont_base.specs.State.{State, step}
use Rattle.mont_base.specs.History.{state_after}
use Rattle.mont_base.specs.Structure.{has_key, has_vertex, has_edge, item_at}
use Rattle.mont_base.specs.Versions.{live_objects}

-- ---- operations and their effects
-- an effect adds an object
abbrev pub is_insertion : Effect → Bool
is_insertion (Inserts thing) = true
is_insertion _ = false

-- an effect adds an item to a queue
abbrev pub is_enqueuing : Effect → Bool
is_enqueuing (Inserts (Item item)) = true
is_enqueuing _ = false

-- an operation adds an item to a queue
abbrev pub is_enq : Op → Bool
is_enq (ops.Enq unit item) = true
is_enq _ = false

-- what an operation would do after these entries
abbrev pub effects_then : State → List Entry → Op → List Effect
effects_then base h op = (step (state_after base h) op).effects

-- ---- what the entries did
-- the sum of what is counted of the effects of each entry, from a state on
abbrev pub sum_over : (List Effect → ℕ) → State → List Entry → ℕ
sum_over count s [] = 0
sum_over count s (e ∷ es) =
    count (step s e.op).effects + sum_over count (step s e.op).state es

abbrev pub insertions : State → List Entry → ℕ
insertions base h = sum_over (count_by is_insertion) base h

abbrev pub enqueued : State → List Entry → ℕ
enqueued base h = sum_over (count_by is_enqueuing) base h

abbrev pub changes_made : State → List Entry → ℕ
changes_made base h = sum_over length base h

-- ---- numbers of records and objects
-- the greatest number of the items, and 0 without one
abbrev pub greatest_by : {A : Type 0} → (A → ℕ) → List A → ℕ
greatest_by number items = fold (λ most x. max most (number x)) 0 items

abbrev pub identity_of : Held → ℕ
identity_of r = r.label.identity

-- the object is a version of the thing; in a queue any item will do
abbrev pub is_version_of : Thing → Object → Bool
is_version_of (Pair key value) o = has_key key o
is_version_of (Item item) o = true
is_version_of (Vertex vertex attribute) o = has_vertex vertex o
is_version_of (Edge from to attribute) o = has_edge (from, to) o

abbrev pub version_if : Thing → Object → ℕ
version_if thing o = if is_version_of thing o then o.version else 0

-- the version that the thing has among objects, and 0 where it has none
abbrev pub version_among : List Object → Thing → ℕ
version_among objects thing = greatest_by (version_if thing) objects

-- ---- numbers at their end
-- the thing of which the effect makes a later version
abbrev pub renewed : Effect → Option Thing
renewed (Inserts thing) = None
renewed (Replaces thing) = Some thing
renewed (Removes thing) = Some thing

-- that version would be above the last number, after so many changes of objects
abbrev pub LacksVersion : List Object → ℕ → Effect → Type 0
LacksVersion objects changes effect =
    IsSomeAnd (renewed effect) (λ thing. LAST ≤ version_among objects thing + changes)

-- In a unit that was opened with these records, an operation after these entries would make a
-- later version, and there is none.
abbrev pub LacksVersions : List Held → State → List Entry → Op → Type 0
LacksVersions records base h op =
    Any (LacksVersion (live_objects records) (changes_made base h)) (effects_then base h op)

-- it would insert an object, and there is no identity for it
abbrev pub LacksIdentity : List Held → State → List Entry → Op → Type 0
LacksIdentity records base h op =
    Any (λ e. is_insertion e ≡ true) (effects_then base h op)
    × (LAST ≤ greatest_by identity_of records + insertions base h)

-- the serial of an item in a queue, and 0 for any other object
abbrev pub serial_or_none : Option (ℕ × ℕ) → ℕ
serial_or_none None = 0
serial_or_none (Some p) = p.0

abbrev pub serial_of : Object → ℕ
serial_of o = serial_or_none (item_at o)

-- The number is at its end, by the records that the unit was opened with and by these entries. The
-- caller had made so many calls.
abbrev pub IsAtEnd : List Held → ℕ → Which → Op → State → List Entry → Type 0
IsAtEnd records calls ends.Call op base h = LAST < calls
IsAtEnd records calls ends.Place op base h = LAST < length h
IsAtEnd records calls ends.Identity op base h = LacksIdentity records base h op
IsAtEnd records calls ends.Version op base h = LacksVersions records base h op
IsAtEnd records calls ends.Serial op base h =
    (is_enq op ≡ true)
    × (LAST ≤ greatest_by serial_of (live_objects records)
    + count_by (λ (e : Entry). is_enq e.op) h)

-- ---- records by units
-- those of a unit, of the records of all units
abbrev pub records_in : List (List Held) → ℕ → List Held
records_in records unit = unwrap_or (slice_get records unit) []
