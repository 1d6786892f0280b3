use Rattle.job_text.specs.PlainReport.{report_of}
use Rattle.text_cases.proofs.judged.judged_on.Goals as goal

pub returns : goal.returns
returns c = record {
  given = report_of c.in_ok-given.given;
  report_spelled = c.in_ok-given.ensures;
  judged = c.in_ok-is_faithful.ensures;
}
