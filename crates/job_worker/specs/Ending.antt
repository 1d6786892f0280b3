-- What the outcome of a line has to do with the outcomes before it and after it.
use Rattle.std.specs.Prelude.{◌≡◌, ℕ, ◌+◌, ◌<◌, ◌≤◌, Bool, true, false, List, [], ◌∷◌, ◌++◌, length, map, take, drop, All, AllPairs, Any, count_by, filter_map, slice_get, Option, Some, None, Ok, Err, alloc_error}
use Rattle.std.specs.declared.result.Result.{Result}
use Rattle.std.specs.declared.alloc.AllocError.{AllocError}
use Rattle.mont_base.specs.declared.operation.Entry.{Entry}
use Rattle.mont_base.specs.declared.operation.Receipt.{Receipt}
use Rattle.mont_base.specs.declared.refusal.CallRefusal.{CallRefusal}
use Rattle.mont_base.specs.declared.refusal.CallRefusal.TheVariants as calls
use Rattle.mont_base.specs.Faults.{Rose}
use Rattle.mont_base.specs.Layout.{Shape}
use Rattle.heap_rule.specs.declared.rule.Opening.{Opening}
use Rattle.heap_rule.specs.declared.views.CallerKnown.{CallerKnown}
use Rattle.caller.specs.declared.sync_refusal.SyncRefusal.{SyncRefusal}
use Rattle.caller.specs.declared.sync_refusal.SyncRefusal.TheVariants as syncs
use Rattle.job_text.specs.declared.job.Deed.{Deed}
use Rattle.job_text.specs.declared.job.Deed.TheVariants.{Call}
use Rattle.job_text.specs.declared.job.Line.{Line}
use Rattle.job_text.specs.declared.outcome.Outcome.{Outcome}
use Rattle.job_text.specs.declared.outcome.Outcome.TheVariants as outcomes
use Rattle.job_text.specs.AnsweredLines.{Answers}
use Rattle.job_text.specs.Outcomes.{place_of, HasEpoch, clock_of, tick_of, settled_of, is_at, is_cut, InOrder}
use Rattle.job_text.specs.Report.{Report}
use Rattle.job_worker.specs.Continuing.{Continues}
use Rattle.caller.specs.Continued.{opened_records, GoesOn}
use Rattle.job_worker.specs.Asking.{HasUnit}

-- the operation of a call line has a unit
abbrev pub MayBeAsked : Shape → Deed → Type 0
MayBeAsked s (Call op) = HasUnit s op
MayBeAsked s _ = Unit {0}

-- ---- what came of an answer
abbrev pub outcome_of_call : Result Receipt CallRefusal → Result Outcome AllocError
outcome_of_call (Ok receipt) = Ok (outcomes.At receipt.unit receipt.place)
outcome_of_call (Err (calls.Halted unit by)) = Ok (outcomes.Halted unit by)
outcome_of_call (Err (calls.CountEnd which)) = Ok (outcomes.CountEnd which)
outcome_of_call (Err calls.Memory) = Err alloc_error
outcome_of_call (Err (calls.Full need free clock)) = Ok (outcomes.Full need free clock)
outcome_of_call (Err (calls.Cut unit)) = Ok (outcomes.CutIn unit)

abbrev pub was_full : Result Receipt CallRefusal → Bool
was_full (Err (calls.Full need free clock)) = true
was_full _ = false

abbrev pub outcome_of_sync : SyncRefusal → Outcome
outcome_of_sync (syncs.Stuck unit epoch) = outcomes.Stuck unit epoch
outcome_of_sync syncs.Cut = outcomes.Cut
outcome_of_sync syncs.ClockEnd = outcomes.ClockEnd

-- ---- what outcomes name
abbrev pub places_named : List Outcome → List (ℕ × ℕ)
places_named xs = filter_map place_of xs

abbrev pub cut_of : Outcome → Option ℕ
cut_of (outcomes.CutIn unit) = Some unit
cut_of _ = None

abbrev pub units_cut : List Outcome → List ℕ
units_cut xs = filter_map cut_of xs

abbrev pub place_answered : Receipt → ℕ × ℕ
place_answered receipt = (receipt.unit, receipt.place)

-- ---- before and after what a caller has seen
-- the caller has seen the entry at the place
pub record IsPassed (q : CallerKnown) (unit place : ℕ) : Type 0 where
  pub front : List Entry
  pub seen : slice_get q.entries unit ≡ Some front
  pub below : place < length front

-- An outcome that the caller had.
pub record IsBefore (histories : List (List Entry)) (q : CallerKnown) (x : Outcome) : Type 0 where
  pub places : (unit place : ℕ) → place_of x ≡ Some (unit, place) → IsPassed q unit place
  pub epochs : (epoch : ℕ) → HasEpoch histories x epoch → epoch ≤ q.part.newest
  pub clocks : (clock : ℕ) → clock_of x ≡ Some clock → clock ≤ q.part.durable

-- It names no entry that the caller has seen.
abbrev pub IsAhead : CallerKnown → Outcome → Type 0
IsAhead q x =
    (unit place : ℕ) (front : List Entry) → place_of x ≡ Some (unit, place)
    → slice_get q.entries unit ≡ Some front → length front ≤ place

pub record IsLater (q : CallerKnown) (epoch : ℕ) : Type 0 where
  pub newest : q.part.newest ≤ epoch
  pub durable : q.part.durable ≤ epoch

pub record IsPast (q : CallerKnown) (clock : ℕ) : Type 0 where
  pub newest : q.part.newest ≤ clock
  pub durable : q.part.durable < clock

pub record IsSettled (q : CallerKnown) (clock : ℕ) : Type 0 where
  pub newest : q.part.newest + 2 ≤ clock
  pub durable : q.part.durable ≤ clock

-- An outcome that came after all that the caller had seen.
pub record ComesBehind (histories : List (List Entry)) (q : CallerKnown) (x : Outcome)
    : Type 0 where
  pub places : IsAhead q x
  pub epochs : (epoch : ℕ) → HasEpoch histories x epoch → IsLater q epoch
  pub ticks : (clock : ℕ) → tick_of x ≡ Some clock → IsPast q clock
  pub settled : (clock : ℕ) → settled_of x ≡ Some clock → IsSettled q clock

-- ---- one line
-- What a report has to tell of a line, of which the caller had this outcome: whatever outcomes the
-- caller had before it, and whatever came after it. A gate was asked that shows these counts.
pub record IsTold
    (o : Opening) (t : Report) (q r : CallerKnown) (deed : Deed) (x : Outcome) : Type 0 where
  pub answers :
      (first last : ℕ) (before after : List Outcome) → (is_cut x ≡ true → Rose first last)
      → All (IsBefore t.histories q) before → All (IsAhead r) after
      → count_by is_at before ≡ q.part.calls
      → Answers t (Rose first last) (opened_records o) q.caller before after deed x
  pub behind : ComesBehind t.histories q x
  pub before : IsBefore t.histories r x

-- A line was carried out, and this is its outcome.
pub record Ends (o : Opening) (q r : CallerKnown) (deed : Deed) (x : Outcome) : Type 0 where
  pub goes_on : GoesOn q r
  pub calls : r.part.calls ≡ q.part.calls + count_by is_at (x ∷ [])
  pub receipts :
      map place_answered r.part.receipts
      ≡ map place_answered q.part.receipts ++ places_named (x ∷ [])
  pub cuts : r.part.cuts ≡ q.part.cuts ++ units_cut (x ∷ [])
  pub told : (t : Report) → Continues o t r → IsTold o t q r deed x

-- ---- the lines so far
abbrev pub AreUncut : List Outcome → Type 0
AreUncut xs = All (λ x. is_cut x ≡ false) xs

pub record AreTold
    (o : Opening) (t : Report) (q r : CallerKnown) (lines : List Line) (xs : List Outcome)
    : Type 0 where
  pub answers :
      (first last : ℕ) (after : List Outcome)
      → (Any (λ x. is_cut x ≡ true) xs → Rose first last) → All (IsAhead r) after
      → (i : ℕ) (l : Line) (x : Outcome) → slice_get lines i ≡ Some l → slice_get xs i ≡ Some x
      → Answers t (Rose first last) (opened_records o) q.caller (take i xs)
      (drop (i + 1) xs ++ after) l.deed x
  pub before : All (IsBefore t.histories r) xs
  pub order : AllPairs (InOrder t.histories) xs

-- These are the outcomes of the first lines.
pub record AreEnds (o : Opening) (q r : CallerKnown) (lines : List Line) (xs : List Outcome)
    : Type 0 where
  pub goes_on : GoesOn q r
  pub calls : r.part.calls ≡ count_by is_at xs
  pub receipts : map place_answered r.part.receipts ≡ places_named xs
  pub cuts : r.part.cuts ≡ q.part.cuts ++ units_cut xs
  pub stops : AllPairs (λ earlier later. is_cut earlier ≡ false) xs
  pub told : (t : Report) → Continues o t r → AreTold o t q r lines xs
