-- The parts of what makes the outcomes of a caller answer the caller's lines.
use Rattle.std.specs.Prelude.{◌≡◌, ◌↔◌, ℕ, ◌+◌, ◌<◌, ◌≤◌, Bool, true, IsTrue, List, length, take, drop, All, AllPairs, Any, slice_get, Some}
use Rattle.mont_base.specs.declared.record.Held.{Held}
use Rattle.job_text.specs.declared.job.Job.{Job}
use Rattle.job_text.specs.declared.job.Line.{Line}
use Rattle.job_text.specs.declared.outcome.Outcome.{Outcome}
use Rattle.job_text.specs.AnsweredLines.{Answers}
use Rattle.job_text.specs.Faithful.{AnsweredAt, HasStop}
use Rattle.job_text.specs.Outcomes.{InOrder, is_cut}
use Rattle.job_text.specs.Report.{Report}
use Rattle.mont_check.specs.declared.moments.Question.{Question}
use Rattle.mont_check.specs.Moments.{IsMet}

-- there is an outcome for each line, or the caller was cut
pub record AreCounted (lines : List Line) (outcomes : List Outcome) : Type 0 where
  pub few : length outcomes ≤ length lines
  pub all : length outcomes < length lines → Any (λ o. is_cut o ≡ true) outcomes

-- the outcome at a place answers the line there
abbrev pub AnsweredLine :
    Job → Report → List (List Held) → List Line → List Outcome → ℕ → Type 0
AnsweredLine j r records lines outcomes i =
    (l : Line) (o : Outcome) → slice_get lines i ≡ Some l → slice_get outcomes i ≡ Some o
    → Answers r (HasStop j l.caller) records l.caller (take i outcomes) (drop (i + 1) outcomes)
    l.deed o

-- each outcome answers its line, and they stand in order
pub record AnswersInOrder (j : Job) (r : Report) (records : List (List Held)) (lines : List Line)
    (outcomes : List Outcome) : Type 0 where
  pub each : (i : ℕ) → AnsweredLine j r records lines outcomes i
  pub order : AllPairs (InOrder r.histories) outcomes

-- ---- what is told where questions have to be asked
abbrev pub AllMet : Report → List (List Held) → List Question → Type 0
AllMet r records qs = All (IsMet r records) qs

-- With the new questions it is told what is so, besides what the old ones ask.
abbrev pub Adds :
    Report → (List (List Held) → Type 0) → List Question → List Question → Bool → Type 0
Adds r So old new b =
    (records : List (List Held))
    → (IsTrue b × AllMet r records new) ↔ (So records × AllMet r records old)

abbrev pub TellsLines :
    Job → Report → List Line → List Outcome → List Question → List Question → Bool → Type 0
TellsLines j r lines outcomes old new b =
    Adds r (λ records. AnswersInOrder j r records lines outcomes) old new b

abbrev pub TellsCaller : Job → Report → ℕ → List Question → List Question → Bool → Type 0
TellsCaller j r caller old new b = Adds r (λ records. AnsweredAt j records r caller) old new b
