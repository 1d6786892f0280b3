-- The summary of a run of the generated job.
use Rattle.std.specs.Prelude.{◌≡◌, ℕ, Bool, true, false, List, sum_by, count_by}
use Rattle.std.specs.List.{list_any}
use Rattle.mont_base.specs.declared.constants.TheConstants.{LAST}
use Rattle.job_text.specs.declared.outcome.Outcome.{Outcome}
use Rattle.job_text.specs.declared.outcome.Outcome.TheVariants.{ClockEnd}
use Rattle.job_text.specs.Outcomes.{is_at}
use Rattle.job_text.specs.Report.{Report}
use Rattle.big_job.specs.Generated.{generated_head, generated_job}
use Rattle.big_job.specs.Summary.{summary_text}
use Rattle.big_job.specs.Totals.{totals_of}
use Rattle.job_store.specs.Base.{nothing}
use Rattle.job_store.specs.SyncedRun.{LosesNothing}
use Rattle.job_store.specs.WholeRun.{IsRun}

-- how many lines were answered
abbrev pub answered_in : List (List Outcome) → ℕ
answered_in outcomes = sum_by (λ os. count_by is_at os) outcomes

-- a line found the clock at its end
abbrev pub is_clock_end : Outcome → Bool
is_clock_end ClockEnd = true
is_clock_end _ = false

abbrev pub met_clock_end : List (List Outcome) → Bool
met_clock_end outcomes = list_any (λ os. list_any is_clock_end os) outcomes

-- The text counts what the report tells. Unless it says that the clock came to its end, no line met
-- that, and nothing of the run is lost; where it says so, the image's clock is the last one.
pub record IsSummaryOf (number : ℕ) (r : Report) (bytes : List ℕ) : Type 0 where
  pub clock_end : Bool
  pub text : bytes
      ≡ summary_text number 20000 (answered_in r.outcomes) (totals_of r.contents) clock_end
  pub unmet : clock_end ≡ false → met_clock_end r.outcomes ≡ false
  pub whole : clock_end ≡ false → LosesNothing r
  pub last : clock_end ≡ true → r.image_clock ≡ LAST

-- a report of a run of the generated job on a store that was never used, and its summary
pub record IsBigSummary (number : ℕ) (bytes : List ℕ) : Type 0 where
  pub report : Report
  pub image : List ℕ
  pub run : IsRun (generated_job number) (nothing generated_head.layout) report image
  pub summary : IsSummaryOf number report bytes
