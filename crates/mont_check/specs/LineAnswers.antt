-- What is told of the answer to a line.
use Rattle.std.specs.Prelude.{◌↔◌, ℕ, List, count_by, max, Option, Some, None}
use Rattle.mont_base.specs.declared.operation.Op.{Op}
use Rattle.mont_base.specs.declared.record.Held.{Held}
use Rattle.mont_base.specs.declared.refusal.Which.{Which}
use Rattle.job_text.specs.declared.job.Job.{Job}
use Rattle.job_text.specs.declared.job.Line.{Line}
use Rattle.job_text.specs.declared.outcome.Outcome.{Outcome}
use Rattle.job_text.specs.AnsweredLines.{Answers, AnswersCall}
use Rattle.mont_base.specs.Counting.{IsAtEnd, records_in}
use Rattle.job_text.specs.Causes.{IsFull, MayBeFull, SomeMoment}
use Rattle.job_text.specs.Faithful.{HasStop}
use Rattle.job_text.specs.Outcomes.{is_at}
use Rattle.job_text.specs.Report.{Report}
use Rattle.mont_check.specs.declared.cause.Cause.{Cause}
use Rattle.mont_check.specs.declared.moments.Finding.{Finding}
use Rattle.mont_check.specs.declared.progress.Progress.{Progress}
use Rattle.mont_check.specs.Moments.{HasMoment, IsAhead, IsAheadOf, IsRight}
use Rattle.mont_check.specs.Progress.{HasShown}

-- Whichever the earlier outcomes were that have shown this, and the later ones that name this first
-- place ahead, and whichever records units were opened with.
abbrev pub TellsAnswer :
    Job → Report → Line → Progress → Outcome → Option ℕ → Finding → Type 0
TellsAnswer j r l p o ahead f =
    (records : List (List Held)) (before after : List Outcome) → HasShown r.histories before p
    → IsAheadOf r.layout after l.deed ahead
    → IsRight r records f
    ↔ Answers r (HasStop j l.caller) records l.caller before after l.deed o

abbrev pub TellsCall :
    Job → Report → ℕ → Progress → Op → Outcome → Option ℕ → Finding → Type 0
TellsCall j r caller p op o ahead f =
    (records : List (List Held)) (before after : List Outcome) → HasShown r.histories before p
    → IsAhead r.layout after op ahead
    → IsRight r records f
    ↔ AnswersCall r (HasStop j caller) records caller before after op o

abbrev pub TellsMoment :
    Report → Progress → Option ℕ → Op → Cause → Finding → Type 0
TellsMoment r p ahead op cause f =
    (records : List (List Held)) (after : List Outcome) → IsAhead r.layout after op ahead
    → IsRight r records f ↔ HasMoment r records p after op cause

abbrev pub TellsFull :
    Report → Progress → Option ℕ → Op → ℕ → ℕ → ℕ → Finding → Type 0
TellsFull r p ahead op need free clock f =
    (records : List (List Held)) (before after : List Outcome) → HasShown r.histories before p
    → IsAhead r.layout after op ahead
    → IsRight r records f ↔ IsFull r before after op need free clock

abbrev pub TellsCountEnd : Report → Progress → Option ℕ → Op → Which → Finding → Type 0
TellsCountEnd r p ahead op which f =
    (records : List (List Held)) (before after : List Outcome) → HasShown r.histories before p
    → IsAhead r.layout after op ahead
    → IsRight r records f
    ↔ SomeMoment r before after op
    (λ unit base h. IsAtEnd (records_in records unit) (count_by is_at before) which op base h)

abbrev pub TellsMayBeFull : Report → Progress → Option ℕ → Op → Finding → Type 0
TellsMayBeFull r p ahead op f =
    (records : List (List Held)) (before after : List Outcome) → HasShown r.histories before p
    → IsAhead r.layout after op ahead
    → IsRight r records f ↔ MayBeFull r before after op

-- the clock that a caller knows, or the base clock where that is greater
abbrev pub first_clock : Option ℕ → ℕ → ℕ
first_clock None base = base
first_clock (Some clock) base = max clock base
