use Rattle.std.proofs.Common.{refl}
use Rattle.job_text.specs.PlainReport.{report_of}
use Rattle.mont_check.specs.declared.cause.Cause.TheVariants.{LacksRoom}
use Rattle.mont_check.proofs.MomentLaws.{moments}
use Rattle.mont_check.proofs.line_answers.is_full.Goals as goal

pub returns-then-not-is_reached : goal.returns-then-not-is_reached
returns-then-not-is_reached c records before after shown ahead =
    (λ no. absurd no, λ full. let no = c.if-not-is_reached.ensures.1 full.reached in absurd cc)

pub returns : goal.returns
returns c records before after shown ahead =
    let a = c.args in
    let same =
    moments (report_of a.report.now) records before after a.progress.now a.op.now (LacksRoom a.need a.free a.clock) shown in
    let says = c.moment.ensures records after ahead in (
      λ yes. record { reached = c.if-not-is_reached.ensures.0 refl; lacks = same.0 (says.0 yes) },
      λ full. says.1 (same.1 full.lacks),
    )
