-- When the outcomes of a caller answer the caller's lines.
use Rattle.std.specs.Prelude.{◌≡◌, ℕ, ◌+◌, ◌<◌, ◌≤◌, true, List, length, take, drop, AllPairs, Any, count_by, slice_get, Some}
use Rattle.mont_base.specs.declared.constants.TheConstants.{LAST}
use Rattle.mont_base.specs.declared.operation.Entry.{Entry}
use Rattle.mont_base.specs.declared.operation.Op.{Op}
use Rattle.mont_base.specs.declared.record.Held.{Held}
use Rattle.mont_base.specs.Counting.{IsAtEnd, records_in}
use Rattle.mont_base.specs.State.{unit_of_op}
use Rattle.mont_base.specs.Seen.{IsEntryAt}
use Rattle.job_text.specs.declared.job.Line.{Line}
use Rattle.job_text.specs.declared.job.Deed.{Deed}
use Rattle.job_text.specs.declared.job.Deed.TheVariants.{Call, Tick, Sync}
use Rattle.job_text.specs.declared.outcome.Outcome.{Outcome}
use Rattle.job_text.specs.declared.outcome.Outcome.TheVariants.{At, Synced, Ticked, Stuck, ClockEnd, Full, CountEnd, Halted, CutIn, Cut}
use Rattle.job_text.specs.Report.{Report}
use Rattle.job_text.specs.Outcomes.{is_at, is_cut, InOrder}
use Rattle.job_text.specs.Causes.{SomeMoment, IsFull, MayBeFull, IsHalted, IsStuck}

-- an operation has an entry of the caller, of its number among the caller's calls
pub record IsAnswer (r : Report) (caller call : ℕ) (op : Op) (unit place : ℕ) : Type 0 where
  pub of_unit : unit_of_op r.layout op ≡ Some unit
  pub entry : Entry
  pub there : IsEntryAt r.histories unit place entry
  pub by : entry.caller ≡ caller
  pub number : entry.call ≡ call
  pub asked : entry.op ≡ op

-- ---- one line
-- Of a report, and of a caller whose gate may cut or not.
module _ (r : Report) (MayBeCut : Type 0) where
  -- how a tick or a sync ends that doesn't get its clock
  abbrev pub EndsWait : Outcome → Type 0
  EndsWait (Stuck unit epoch) = IsStuck r unit epoch
  EndsWait ClockEnd = r.image_clock ≡ LAST
  EndsWait Cut = MayBeCut
  EndsWait _ = ⊥

  -- a tick moved the clock on from the base clock
  abbrev pub AnswersTick : Outcome → Type 0
  AnswersTick (Ticked epoch) = (r.base_clock < epoch) × (epoch ≤ r.image_clock)
  AnswersTick o = EndsWait o

  abbrev pub AnswersSync : Outcome → Type 0
  AnswersSync (Synced epoch) = epoch ≤ r.image_clock
  AnswersSync o = EndsWait o

  -- Units were opened with these records, and the caller's outcomes before this one and after it
  -- are these. A call that was full waits like a sync before it is made again.
  module _ (records : List (List Held)) (caller : ℕ) (before after : List Outcome) where
    abbrev pub AnswersCall : Op → Outcome → Type 0
    AnswersCall op (At unit place) = IsAnswer r caller (count_by is_at before) op unit place
    AnswersCall op (Full need free clock) = IsFull r before after op need free clock
    AnswersCall op (CountEnd which) =
        SomeMoment r before after op
        (λ unit base h. IsAtEnd (records_in records unit) (count_by is_at before) which op base h)
    AnswersCall op (Halted unit by) = IsHalted r op unit by
    AnswersCall op (CutIn unit) = MayBeCut × (unit_of_op r.layout op ≡ Some unit)
    AnswersCall op o = EndsWait o × MayBeFull r before after op

    abbrev pub Answers : Deed → Outcome → Type 0
    Answers (Call op) o = AnswersCall op o
    Answers Tick o = AnswersTick o
    Answers Sync o = AnswersSync o

-- ---- all lines of a caller
-- the outcome of each line answers it
abbrev pub AnswersEach :
    Report → Type 0 → List (List Held) → ℕ → List Line → List Outcome → Type 0
AnswersEach r MayBeCut records caller lines outcomes =
    (i : ℕ) (l : Line) (o : Outcome) → slice_get lines i ≡ Some l → slice_get outcomes i ≡ Some o
    → Answers r MayBeCut records caller (take i outcomes) (drop (i + 1) outcomes) l.deed o

-- the outcomes of a caller answer the caller's lines in order, one each, and all of them unless the
-- caller was cut
pub record AnswersLines (r : Report) (MayBeCut : Type 0) (records : List (List Held)) (caller : ℕ)
    (lines : List Line) (outcomes : List Outcome) : Type 0 where
  pub few : length outcomes ≤ length lines
  pub all : length outcomes < length lines → Any (λ o. is_cut o ≡ true) outcomes
  pub each : AnswersEach r MayBeCut records caller lines outcomes
  pub order : AllPairs (InOrder r.histories) outcomes
