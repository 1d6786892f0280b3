-- What is told of a job that was read, and what is judged of texts that spell a job and a report.
use Rattle.std.proofs.Common.{◌≡◌, ℕ, List, Bool, length, true, refl, sym, subst}
use Rattle.std.specs.Prelude.{Result, Ok, Err, IfOk}
use Rattle.mont_base.specs.declared.record.Held.{Held}
use Rattle.job_text.specs.declared.job.Job.{Job}
use Rattle.job_text.specs.Grammar.{IsJob}
use Rattle.job_text.specs.JobText.{job_text}
use Rattle.job_text.specs.Report.{Report}
use Rattle.job_text.specs.ReportText.{report_text}
use Rattle.text_cases.specs.declared.job_outcome.JobOutcome.{JobOutcome}
use Rattle.text_cases.specs.declared.job_outcome.JobOutcome.TheVariants.{Read}
use Rattle.text_cases.specs.CaseOutcomes.{IsOutcome}
use Rattle.text_cases.specs.Judged.{IsJudged, IsJudgedBy, IsJudgedOn}

pub told_read : {E : Type 0} (text : List ℕ) (j : Job) (result : Result JobOutcome E) → IsJob j → text ≡ job_text j
    → IfOk result (λ (o : JobOutcome). o ≡ Read (length j.stops) (length j.lines) true) → IfOk result (IsOutcome text)
told_read text j (Ok o) is_job is told =
    subst (IsOutcome text) (sym told)
    (refl, record { asked = j; is_job = is_job; spelled = is; stops_counted = refl; lines_counted = refl })
told_read text j (Err e) is_job is told = tt

-- what is judged of an opened report, where a text spells it
pub judged_right : {asked : Job} {opened : Report} {right report : List ℕ} {records : List (List Held)} {answer : Bool}
    → right ≡ report_text opened → IsJudgedOn asked opened report records answer
    → IsJudgedBy asked right report records answer
judged_right {asked} {opened} spelled on_it = record { opened = opened; right_spelled = spelled; on_it = on_it }

-- what is judged of a job, where a text spells it
pub judged_job : {asked : Job} {job right report : List ℕ} {records : List (List Held)} {answer : Bool}
    → job ≡ job_text asked → IsJudgedBy asked right report records answer → IsJudged job right report records answer
judged_job {asked} spelled by_it = record { asked = asked; job_spelled = spelled; by_it = by_it }
