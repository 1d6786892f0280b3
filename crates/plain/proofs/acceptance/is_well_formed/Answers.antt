use Rattle.std.proofs.Common.{ℕ, refl, arith, below_more}
use Rattle.plain.specs.Acceptable.{IsAcceptableUnit}
use Rattle.plain.proofs.Acceptable.{well_formed}
use Rattle.plain.proofs.acceptance.is_well_formed.Goals as goal

pub loop-unit-preserved : goal.loop-unit-preserved
loop-unit-preserved c =
    let P : ℕ → Type 0 = λ unit. IsAcceptableUnit c.args.layout c.args.image.now unit in
    below_more P c.loop-unit.unit c.loop-unit.invariant (c.in_ok-is_acceptable.ensures.0 c.if-not-branch.false)

pub returns : goal.returns
returns c = (
  λ e. well_formed c.args.layout c.args.image.now c.units-unit-end.ensures.layout (c.has_clock.ensures.0 c.if-not-has_clock.false)
      (λ unit within. c.loop-unit.invariant unit (omega arith)),
  λ h. refl,
)
