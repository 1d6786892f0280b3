use Rattle.std.proofs.Common.{refl, below_more, arith}
use Rattle.std.proofs.lemmas.Option.{slice_get_within}
use Rattle.job_text.specs.Faithful.{AllNamedAt}
use Rattle.job_text.specs.PlainReport.{report_of}
use Rattle.mont_check.proofs.Places.{fails_at}
use Rattle.mont_check.proofs.named_entries.are_named_once.Goals as goal

pub returns-then-not-branch : goal.returns-then-not-branch
returns-then-not-branch c =
    fails_at (AllNamedAt (report_of c.args.report.now)) c.loop-unit.unit _ c.if-not-branch.true c.in_ok-are_named_at.ensures

pub loop-unit-preserved : goal.loop-unit-preserved
loop-unit-preserved c = below_more _ _ c.loop-unit.invariant (c.in_ok-are_named_at.ensures.0 c.if-not-branch.false)

pub returns : goal.returns
returns c = (
  λ _ unit place e there.
      let within = slice_get_within (report_of c.args.report.now).histories unit there.0 there.1 in
      c.loop-unit.invariant unit (omega arith) place e there,
  λ _. refl,
)
