use Rattle.std.proofs.Common.{Bool, arith, below_more, subst}
use Rattle.std.specs.Prelude.{IsTrue, false}
use Rattle.job_text.specs.PlainReport.{report_of}
use Rattle.report_check.proofs.ContentLaws.{contents_past}
use Rattle.report_check.proofs.other_contents.other_unit.Goals as goal

pub returns-then-not-branch : goal.returns-then-not-branch
returns-then-not-branch c = record {
  before = c.loop-unit.invariant;
  fails = λ holds.
      let t : IsTrue false =
      subst (λ (v : Bool). IsTrue v) c.if-not-branch.true (c.in_ok-is_same_at.ensures.1 holds) in
      absurd cc;
}

pub loop-unit-preserved : goal.loop-unit-preserved
loop-unit-preserved c = below_more _ _ c.loop-unit.invariant (c.in_ok-is_same_at.ensures.0 c.if-not-branch.false)

pub returns : goal.returns
returns c =
    contents_past (report_of c.args.report.now) c.args.image.now.words c.loop-unit.unit (omega arith) c.loop-unit.invariant
