-- What comes of texts.
use Rattle.std.specs.Prelude.{◌≡◌, ℕ, List, length, true}
use Rattle.job_text.specs.declared.job.Job.{Job}
use Rattle.job_text.specs.Grammar.{IsJob}
use Rattle.job_text.specs.JobText.{IsFirstRefused, job_text}
use Rattle.text_cases.specs.declared.job_outcome.JobOutcome.{JobOutcome}
use Rattle.text_cases.specs.declared.job_outcome.JobOutcome.TheVariants.{Read, Refused, Failed}

-- the text spells a job with so many stops and lines
pub record IsReadAs (text : List ℕ) (stops lines : ℕ) : Type 0 where
  pub asked : Job
  pub is_job : IsJob asked
  pub spelled : text ≡ job_text asked
  pub stops_counted : stops ≡ length asked.stops
  pub lines_counted : lines ≡ length asked.lines

-- what is told of a text
abbrev pub IsOutcome : List ℕ → JobOutcome → Type 0
IsOutcome text (Read stops lines same) = (same ≡ true) × IsReadAs text stops lines
IsOutcome text (Refused line fault) = IsFirstRefused text line fault
IsOutcome text Failed = Unit {0}
