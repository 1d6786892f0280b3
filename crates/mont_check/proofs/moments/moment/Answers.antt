use Rattle.std.proofs.Common.{sym}
use Rattle.job_text.specs.PlainReport.{report_of}
use Rattle.mont_check.proofs.MomentLaws.{known_moment}
use Rattle.mont_check.proofs.moments.moment.Goals as goal

pub returns : goal.returns
returns c records after ahead =
    let r = report_of c.args.report.now in
    let unit = c.in-Some.unit in
    known_moment r records c.args.progress.now after c.args.op.now c.args.cause unit _ (sym c.in-Some.ensures) (λ i. record {
      unit = unit;
      span = record { behind = c.last_place.ensures i; ahead = ahead unit (sym c.in-Some.ensures) i };
      case = record { op = c.args.op.now; slots = c.slots.ensures.value i; cause = c.args.cause };
    })
