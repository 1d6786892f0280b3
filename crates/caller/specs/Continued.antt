-- How what a caller has seen goes on, and what it has of a call that was answered.
use Rattle.std.specs.Prelude.{◌≡◌, ℕ, ◌+◌, ◌≤◌, true, List, [], ◌∷◌, ◌++◌, length, map, slice_get, Some}
use Rattle.std.specs.List.{range_with_len}
use Rattle.mont_base.specs.declared.operation.Entry.{Entry}
use Rattle.mont_base.specs.declared.operation.Op.{Op}
use Rattle.mont_base.specs.declared.operation.Receipt.{Receipt}
use Rattle.mont_base.specs.declared.record.Held.{Held}
use Rattle.mont_base.specs.Image.{records_of}
use Rattle.mont_base.specs.Layout.{units_of}
use Rattle.mont_base.specs.State.{unit_of_op}
use Rattle.core_steps.specs.declared.parts.Mark.{Mark}
use Rattle.heap_rule.specs.declared.rule.Opening.{Opening}
use Rattle.heap_rule.specs.declared.views.CallerKnown.{CallerKnown}
use Rattle.heap_rule.specs.SeenEntries.{AreFronts}
use Rattle.caller.specs.Telling.{has_mark}

-- the records that each unit was opened with
abbrev pub opened_records : Opening → List (List Held)
opened_records o =
    map (records_of o.layout o.words) (range_with_len 0 (units_of o.layout))

-- ---- a caller, earlier and later
-- It is the same caller. It has lost no receipt, it has forgotten no entry that it saw, no mark and
-- no clock.
pub record GoesOn (q r : CallerKnown) : Type 0 where
  pub caller : r.caller ≡ q.caller
  pub more : List Receipt
  pub receipts : r.part.receipts ≡ q.part.receipts ++ more
  pub seen : AreFronts r.entries q.entries
  pub newest : q.part.newest ≤ r.part.newest
  pub durable : q.part.durable ≤ r.part.durable
  pub marks : (m : Mark) → has_mark q.part.marks m ≡ true → has_mark r.part.marks m ≡ true

-- ---- a call that was answered
-- the caller was answered none yet
pub record IsUnanswered (q : CallerKnown) : Type 0 where
  pub calls : q.part.calls ≡ 0
  pub receipts : q.part.receipts ≡ []

-- The call is one entry of the unit's history. The entry stands after all that the caller had
-- seen, at no epoch below what it had seen or knew to be durable; from then on the caller has seen
-- it, and all entries before it.
pub record HasContinued (o : Opening) (q r : CallerKnown) (op : Op) (receipt : Receipt)
    : Type 0 where
  pub goes_on : GoesOn q r
  pub of_unit : unit_of_op o.layout op ≡ Some receipt.unit
  pub by : receipt.entry.caller ≡ q.caller
  pub number : receipt.entry.call ≡ q.part.calls
  pub asked : receipt.entry.op ≡ op
  pub history : List Entry
  pub place : receipt.place ≡ length history
  pub seen : slice_get r.entries receipt.unit ≡ Some (history ++ receipt.entry ∷ [])
  pub behind :
      (front : List Entry) → slice_get q.entries receipt.unit ≡ Some front
      → length front ≤ receipt.place
  pub later : q.part.newest ≤ receipt.entry.epoch
  pub durable : q.part.durable ≤ receipt.entry.epoch
  pub newest : r.part.newest ≡ receipt.entry.epoch
  pub calls : r.part.calls ≡ q.part.calls + 1
  pub receipts : r.part.receipts ≡ q.part.receipts ++ receipt ∷ []
  pub cuts : r.part.cuts ≡ q.part.cuts
  pub synced : r.part.synced ≡ q.part.synced
