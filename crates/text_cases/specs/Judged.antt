-- What is judged of the texts of a case.
use Rattle.std.specs.Prelude.{◌≡◌, ◌↔◌, ℕ, List, Bool, IsTrue}
use Rattle.mont_base.specs.declared.record.Held.{Held}
use Rattle.job_text.specs.declared.job.Job.{Job}
use Rattle.job_text.specs.Faithful.{IsFaithful}
use Rattle.job_text.specs.JobText.{job_text}
use Rattle.job_text.specs.Report.{Report}
use Rattle.job_text.specs.ReportText.{report_text}

-- the text spells a report, and the answer is whether it is faithful to the job on a store that was
-- opened as the opened report tells, with these records
pub record IsJudgedOn
    (asked : Job) (opened : Report) (report : List ℕ) (records : List (List Held)) (answer : Bool)
    : Type 0 where
  pub given : Report
  pub report_spelled : report ≡ report_text given
  pub judged : IsTrue answer ↔ IsFaithful asked opened.base_clock opened.base records given

-- the same where a text spells the opened report
pub record IsJudgedBy
    (asked : Job) (right report : List ℕ) (records : List (List Held)) (answer : Bool)
    : Type 0 where
  pub opened : Report
  pub right_spelled : right ≡ report_text opened
  pub on_it : IsJudgedOn asked opened report records answer

-- the texts spell a job and two reports, and the answer is whether the second report is faithful to
-- the job on a store that was opened as the first tells, with these records
pub record IsJudged
    (job right report : List ℕ) (records : List (List Held)) (answer : Bool) : Type 0 where
  pub asked : Job
  pub job_spelled : job ≡ job_text asked
  pub by_it : IsJudgedBy asked right report records answer
