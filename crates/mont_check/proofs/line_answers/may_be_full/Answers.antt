use Rattle.job_text.specs.PlainReport.{report_of}
use Rattle.mont_check.specs.Moments.{IsRight}
use Rattle.mont_check.proofs.FullLaws.{full_told, never_full}
use Rattle.mont_check.proofs.line_answers.may_be_full.Goals as goal

pub returns-then-clock-report : goal.returns-then-clock-report
returns-then-clock-report c records before after shown ahead =
    let a = c.args in
    never_full (report_of a.report.now) before after a.progress.now a.op.now shown c.first_clock-clock.result c.first_clock-clock.ensures
    c.if-clock-report.true

pub returns : goal.returns
returns c records before after shown ahead =
    let a = c.args in
    let r = report_of a.report.now in
    full_told r records before after a.progress.now a.op.now shown c.first_clock-clock.result c.first_clock-clock.ensures
    c.if-clock-report.false (IsRight r records c.moment.result) (c.moment.ensures records after ahead)
