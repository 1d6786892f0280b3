-- What an operation on a queue is answered, and what it changes.
use Rattle.std.specs.Prelude.{◌≡◌, ℕ, Bool, true, false, List, [], ◌∷◌, ◌++◌, drop, length, Option, Some, None, option_to_list}
use Rattle.mont_base.specs.declared.operation.Op.{Op}
use Rattle.mont_base.specs.declared.operation.Op.TheVariants as ops
use Rattle.mont_base.specs.declared.operation.Reply.{Reply}
use Rattle.mont_base.specs.declared.operation.Reply.TheVariants.{Nothing, Count}
use Rattle.mont_base.specs.declared.record.Change.{Change}
use Rattle.mont_base.specs.declared.record.Change.TheVariants.{Insert, Replace, Remove}
use Rattle.mont_base.specs.Bodies.{item_body}
use Rattle.pqueue.specs.declared.queued.Queued.{Queued}

-- ---- operations
abbrev pub IsEnq : Op → ℕ → Type 0
IsEnq op item = (unit : ℕ) × (op ≡ ops.Enq unit item)

-- the operation changes nothing of a queue of these items
abbrev pub ChangesNothing : List Queued → Op → Type 0
ChangesNothing items (ops.Enq unit item) = ⊥
ChangesNothing items (ops.Deq unit) = items ≡ []
ChangesNothing items _ = Unit {0}

-- the reply of an operation that changes nothing
abbrev pub looked_up : List Queued → Op → Reply
looked_up items (ops.Len unit) = Count (length items)
looked_up items _ = Nothing

-- ---- changes
-- an item comes in
abbrev pub adds_item : Option Change → Bool
adds_item (Some (Insert body)) = true
adds_item _ = false

-- An item comes in with the next serial, or the first item goes, or nothing changes.
abbrev pub ChangesQueue : ℕ → List Queued → Option Change → Type 0
ChangesQueue serial items None = Unit {0}
ChangesQueue serial items (Some (Insert body)) = (item : ℕ) × (body ≡ item_body serial item)
ChangesQueue serial items (Some (Replace slot identity body)) = ⊥
ChangesQueue serial [] (Some (Remove slot identity)) = ⊥
ChangesQueue serial (q ∷ items) (Some (Remove slot identity)) =
    (slot ≡ q.slot) × (identity ≡ q.identity)

-- the items after a change, where an item that came in is this one
abbrev pub items_behind : List Queued → Option Change → Option Queued → List Queued
items_behind items None written = items
items_behind items (Some (Insert body)) written = items ++ option_to_list written
items_behind items (Some (Replace slot identity body)) written = items
items_behind items (Some (Remove slot identity)) written = drop 1 items
