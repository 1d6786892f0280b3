use Rattle.job_text.specs.PlainReport.{report_of}
use Rattle.mont_check.specs.Moments.{IsRight}
use Rattle.mont_check.proofs.CountLaws.{count_told}
use Rattle.mont_check.proofs.line_answers.ends_count.Goals as goal

pub returns : goal.returns
returns c records before after shown ahead =
    let a = c.args in
    let r = report_of a.report.now in
    count_told r records before after a.progress.now a.op.now a.which shown (IsRight r records c.moment.result)
    (c.moment.ensures records after ahead)
