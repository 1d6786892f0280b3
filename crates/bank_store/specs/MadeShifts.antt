-- What a caller's shifts leave of it, whatever the other callers did meanwhile.
use Rattle.std.specs.Prelude.{◌≡◌, ◌+◌, ◌<◌, ◌≤◌, Bool, true, false, List, [], ◌++◌, length, slice_get, Some, None, All}
use Rattle.mont_base.specs.declared.operation.Entry.{Entry}
use Rattle.mont_base.specs.declared.operation.Receipt.{Receipt}
use Rattle.heap_rule.specs.declared.views.CallerKnown.{CallerKnown}
use Rattle.heap.specs.HeapShown.{HeapShown, CallerShown}
use Rattle.caller.specs.Continued.{GoesOn}
use Rattle.shard_map.specs.declared.shift_refusal.ShiftRefusal.{ShiftRefusal}
use Rattle.shard_map.specs.declared.shift_refusal.ShiftRefusal.TheVariants.{SameUnit, Memory, Cut}
use Rattle.store.specs.Shifting.{ContinuesByShift, IsRefusedBetween}
use Rattle.store.specs.StoreCalls.{KeepsCaller}
use Rattle.store.specs.StoreShown.{IsOpenedOn, StoreShown}
use Rattle.bank_job.specs.declared.shifts.Shift.{Shift}
use Rattle.bank_store.specs.Ends.{End, HasGone, HoldsOfEach, all_given}

-- This holds of the store that was opened on the heap.
abbrev pub OfItsStore : HeapShown → (StoreShown → Type 0) → Type 0
OfItsStore heap Holds = (store : StoreShown) × IsOpenedOn heap store × Holds store

-- ---- one shift
-- a refusal for which a shift is passed over
abbrev pub is_passed_over : ShiftRefusal → Bool
is_passed_over (SameUnit unit) = false
is_passed_over Memory = false
is_passed_over (Cut unit first) = false
is_passed_over why = true

pub record IsPassedOver (heap : HeapShown) (q r : CallerShown) (shift : Shift) : Type 0 where
  pub why : ShiftRefusal
  pub passed : is_passed_over why ≡ true
  pub keeps : KeepsCaller q r
  pub tells : OfItsStore heap
      (λ store. IsRefusedBetween store q r shift.from shift.to shift.amount why)

abbrev pub ComesTo : HeapShown → CallerShown → CallerShown → Shift → End → Type 0
ComesTo heap q r shift (Some pair) =
    OfItsStore heap (λ store. ContinuesByShift store q r shift.from shift.to shift.amount pair)
ComesTo heap q r shift None = IsPassedOver heap q r shift

-- it was made, or passed over
abbrev pub HasMadeShift : HeapShown → CallerShown → CallerShown → Shift → Type 0
HasMadeShift heap q r shift = (end : End) × ComesTo heap q r shift end

-- ---- what a caller has seen, and what comes after it
pub record HasSeenPlace (q : CallerKnown) (r : Receipt) : Type 0 where
  pub front : List Entry
  pub of_unit : slice_get q.entries r.unit ≡ Some front
  pub inside : r.place < length front

abbrev pub ComesBehind : CallerKnown → Receipt → Type 0
ComesBehind q r =
    (front : List Entry) → slice_get q.entries r.unit ≡ Some front → length front ≤ r.place

-- an entry of no epoch below the clock that the caller knew to be durable
abbrev pub ComesOnceDurable : CallerKnown → Receipt → Type 0
ComesOnceDurable q r = q.part.durable ≤ r.entry.epoch

-- ---- shifts that were made between two states of a caller
-- One was passed over between: all entries that the caller was answered before it had seen, and
-- those that it was answered later come after all that it had seen then.
pub record WasPassedOver
    (heap : HeapShown) (first last : CallerShown) (shift : Shift) (earlier later : List Receipt)
    : Type 0 where
  pub before : CallerShown
  pub behind : CallerShown
  pub over : IsPassedOver heap before behind shift
  pub begun : GoesOn first.known before.known
  pub goes_on : GoesOn behind.known last.known
  pub calls : before.known.part.calls ≤ last.known.part.calls
  pub seen : All (HasSeenPlace before.known) earlier
  pub come_later : All (ComesBehind behind.known) later

abbrev pub EndsBetween :
    HeapShown → CallerShown → CallerShown → Shift → End → List Receipt → List Receipt → Type 0
EndsBetween heap first last shift (Some pair) earlier later = HasGone shift pair
EndsBetween heap first last shift None earlier later =
    WasPassedOver heap first last shift earlier later

pub record HasMadeShifts (heap : HeapShown) (q r : CallerShown) (shifts : List Shift)
    : Type 0 where
  pub ends : List End
  pub table : r.table ≡ q.table
  pub goes_on : GoesOn q.known r.known
  pub cuts : r.known.part.cuts ≡ q.known.part.cuts
  pub calls : r.known.part.calls ≡ q.known.part.calls + length (all_given ends)
  pub receipts : r.known.part.receipts ≡ q.known.part.receipts ++ all_given ends
  pub seen : All (HasSeenPlace r.known) (all_given ends)
  pub behind : All (ComesBehind q.known) (all_given ends)
  pub durable : All (ComesOnceDurable q.known) (all_given ends)
  pub each : HoldsOfEach (EndsBetween heap q r) [] shifts ends
