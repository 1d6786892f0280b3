use Rattle.std.proofs.Common.{refl, below_more, arith}
use Rattle.plain.specs.States.{states_of}
use Rattle.mont_base.specs.History.{IsLegal}
use Rattle.job_text.specs.Faithful.{LegalAt}
use Rattle.mont_check.proofs.Places.{fails_at, all_both_at}
use Rattle.mont_check.proofs.faithful.are_legal.Goals as goal

pub returns-then-not-branch : goal.returns-then-not-branch
returns-then-not-branch c =
    fails_at (LegalAt c.args.layout.now c.args.clock (states_of c.args.base.now) c.args.histories.now) c.loop-unit.unit _
    c.if-not-branch.true c.in_ok-is_legal_at.ensures

pub loop-unit-preserved : goal.loop-unit-preserved
loop-unit-preserved c = below_more _ _ c.loop-unit.invariant (c.in_ok-is_legal_at.ensures.0 c.if-not-branch.false)

pub returns : goal.returns
returns c = (
  λ _. all_both_at (λ unit state h. IsLegal c.args.layout.now unit state c.args.clock h) (states_of c.args.base.now) c.args.histories.now
      c.loop-unit.unit (omega arith) c.loop-unit.invariant,
  λ _. refl,
)
