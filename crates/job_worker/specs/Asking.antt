-- What a caller has of a call, of a tick and of a sync.
use Rattle.std.specs.Prelude.{◌≡◌, ℕ, ◌+◌, ◌<◌, ◌≤◌, Bool, true, false, List, [], ◌∷◌, ◌++◌, length, slice_get, Some, None, IsSome, Err}
use Rattle.std.specs.declared.result.Result.{Result}
use Rattle.mont_base.specs.declared.constants.TheConstants.{LAST}
use Rattle.mont_base.specs.declared.operation.Entry.{Entry}
use Rattle.mont_base.specs.declared.operation.Op.{Op}
use Rattle.mont_base.specs.declared.refusal.CallRefusal.{CallRefusal}
use Rattle.mont_base.specs.declared.refusal.Which.{Which}
use Rattle.mont_base.specs.declared.refusal.CallRefusal.TheVariants as calls
use Rattle.mont_base.specs.Counting.{effects_then, IsAtEnd, records_in}
use Rattle.mont_base.specs.Image.{clock_of, IsRecovered}
use Rattle.mont_base.specs.Layout.{Shape}
use Rattle.mont_base.specs.Room.{room_of}
use Rattle.mont_base.specs.State.{State, unit_of_op}
use Rattle.heap_rule.specs.declared.rule.Opening.{Opening}
use Rattle.heap_rule.specs.declared.views.CallerKnown.{CallerKnown}
use Rattle.advance.specs.declared.advance_refusal.AdvanceRefusal.{AdvanceRefusal}
use Rattle.advance.specs.declared.advance_refusal.AdvanceRefusal.TheVariants as advances
use Rattle.caller.specs.declared.sync_refusal.SyncRefusal.{SyncRefusal}
use Rattle.caller.specs.declared.sync_refusal.SyncRefusal.TheVariants as syncs
use Rattle.caller.specs.Telling.{has_mark}
use Rattle.caller.specs.Continued.{GoesOn, opened_records}

-- ---- what may be asked
-- there is a unit of the operation
abbrev pub HasUnit : Shape → Op → Type 0
HasUnit s op = IsSome (unit_of_op s op)

-- ---- in every refusal
-- no answer is lost, and none came
pub record KeepsAnswers (q r : CallerKnown) : Type 0 where
  pub goes_on : GoesOn q r
  pub calls : r.part.calls ≡ q.part.calls
  pub receipts : r.part.receipts ≡ q.part.receipts
  pub cuts : r.part.cuts ≡ q.part.cuts

-- ---- a call that was refused
-- what held of the unit, if these are the states that it was opened with
pub record FoundFrom (states : List State) (unit : ℕ) (Found : State → Type 0) : Type 0 where
  pub base : State
  pub opened : slice_get states unit ≡ Some base
  pub found : Found base

-- The caller has seen all entries that the operation's unit had when it was asked, and this held of
-- the state that it was opened with and of these entries.
pub record WasFound (o : Opening) (r : CallerKnown) (op : Op)
    (Found : ℕ → State → List Entry → Type 0) : Type 0 where
  pub unit : ℕ
  pub of_unit : unit_of_op o.layout op ≡ Some unit
  pub history : List Entry
  pub seen : slice_get r.entries unit ≡ Some history
  pub each :
      (states : List State) → IsRecovered o.layout o.words states
      → FoundFrom states unit (λ base. Found unit base history)

-- The unit had less room than the operation needs, at a durable clock that isn't below the one that
-- the caller knew, and that it knows now.
pub record HasNoRoom
    (o : Opening) (q r : CallerKnown) (op : Op) (need free clock : ℕ) : Type 0 where
  pub keeps : KeepsAnswers q r
  pub few : free < need
  pub begun : clock_of o.words ≤ clock
  pub known : q.part.durable ≤ clock
  pub learnt : clock ≤ r.part.durable
  pub found :
      WasFound o r op
      (λ unit base h. (length (effects_then base h op) ≡ need)
      × (room_of o.layout.slots base h clock ≡ free))

pub record HasEnd (o : Opening) (q r : CallerKnown) (op : Op) (which : Which) : Type 0 where
  pub keeps : KeepsAnswers q r
  pub found :
      WasFound o r op
      (λ unit base h. IsAtEnd (records_in (opened_records o) unit) q.part.calls which op base h)

-- A caller was cut in the unit before.
pub record WasHalted (o : Opening) (q r : CallerKnown) (op : Op) (unit by : ℕ) : Type 0 where
  pub keeps : KeepsAnswers q r
  pub of_unit : unit_of_op o.layout op ≡ Some unit
  pub marked : has_mark r.part.marks (record { unit = unit; by = Some by }) ≡ true

-- This caller was cut in the unit.
pub record IsCutIn (o : Opening) (q r : CallerKnown) (op : Op) (unit : ℕ) : Type 0 where
  pub goes_on : GoesOn q r
  pub of_unit : unit_of_op o.layout op ≡ Some unit
  pub calls : r.part.calls ≡ q.part.calls
  pub receipts : r.part.receipts ≡ q.part.receipts
  pub cuts : r.part.cuts ≡ q.part.cuts ++ unit ∷ []

abbrev pub HasLearntWhy : Opening → CallerKnown → CallerKnown → Op → CallRefusal → Type 0
HasLearntWhy o q r op (calls.Halted unit by) = WasHalted o q r op unit by
HasLearntWhy o q r op (calls.CountEnd which) = HasEnd o q r op which
HasLearntWhy o q r op calls.Memory = KeepsAnswers q r
HasLearntWhy o q r op (calls.Full need free clock) = HasNoRoom o q r op need free clock
HasLearntWhy o q r op (calls.Cut unit) = IsCutIn o q r op unit

-- ---- ticks and syncs
-- The clock moved on, past the one that the store opened with and past every durable clock that the
-- caller knew, and not to below an epoch that it had seen.
pub record HasMoved (o : Opening) (q r : CallerKnown) (clock : ℕ) : Type 0 where
  pub begun : clock_of o.words < clock
  pub past : q.part.durable < clock
  pub reached : q.part.newest ≤ clock
  pub learnt : clock ≤ r.part.durable

-- A caller was cut in the unit, which announces an epoch below a durable clock for good.
pub record IsHeldUp (r : CallerKnown) (unit epoch : ℕ) : Type 0 where
  pub marked : has_mark r.part.marks (record { unit = unit; by = None }) ≡ true
  pub below : epoch < r.part.durable

-- what is known of an advance that was refused, once the caller has heard of it
abbrev pub HasHeard : CallerKnown → AdvanceRefusal → Type 0
HasHeard r (advances.NotYet unit epoch true) = IsHeldUp r unit epoch
HasHeard r advances.ClockEnd = LAST ≤ r.part.durable
HasHeard r _ = Unit {0}

-- All that the caller has seen is durable, by a clock that isn't below one that it knew.
pub record HasSynced (q r : CallerKnown) (clock : ℕ) : Type 0 where
  pub known : q.part.durable ≤ clock
  pub past : r.part.newest + 2 ≤ clock
  pub learnt : clock ≤ r.part.durable

abbrev pub LeavesUnsynced : CallerKnown → SyncRefusal → Type 0
LeavesUnsynced r (syncs.Stuck unit epoch) = IsHeldUp r unit epoch
LeavesUnsynced r syncs.ClockEnd = LAST ≤ r.part.durable
LeavesUnsynced r syncs.Cut = Unit {0}

-- ---- cuts
-- the gate cut
abbrev pub call_was_cut : {T : Type 0} → Result T CallRefusal → Bool
call_was_cut (Err (calls.Cut unit)) = true
call_was_cut _ = false

abbrev pub advance_was_cut : {T : Type 0} → Result T AdvanceRefusal → Bool
advance_was_cut (Err advances.Cut) = true
advance_was_cut _ = false

abbrev pub sync_was_cut : {T : Type 0} → Result T SyncRefusal → Bool
sync_was_cut (Err syncs.Cut) = true
sync_was_cut _ = false
