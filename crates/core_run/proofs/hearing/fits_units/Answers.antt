use Rattle.std.proofs.Common.{sym, refl, ◌∙◌}
use Rattle.plain.proofs.Each.{below_one_more, below_whole, each_at}
use Rattle.core_run.specs.Hearing.{FitsUnit}
use Rattle.core_run.proofs.NotesFit.{seen_fits, fits_seen, as_many_fronts}
use Rattle.core_run.proofs.hearing.fits_units.Goals as goal

pub returns-then-len-units : goal.returns-then-len-units
returns-then-len-units c = (
  λ t. absurd (cc),
  λ fits. absurd (c.if-len-units.true (c.len.ensures ∙ as_many_fronts c.args.units.now c.args.note.now fits)),
)

pub returns-then-not-fits_unit : goal.returns-then-not-fits_unit
returns-then-not-fits_unit c =
    let here = each_at (FitsUnit c.args.note.now) c.args.units.now c.loop-unit.unit c.index-units-unit.result c.loop-unit-test.true
    c.index-units-unit.is in
    (λ t. absurd (cc), λ fits. sym c.if-not-fits_unit.true ∙ c.fits_unit.ensures.1 (here (fits_seen c.args.units.now c.args.note.now fits)))

pub loop-unit-preserved : goal.loop-unit-preserved
loop-unit-preserved c =
    below_one_more (FitsUnit c.args.note.now) c.args.units.now c.loop-unit.unit c.index-units-unit.result c.loop-unit-test.true
    c.index-units-unit.is (c.fits_unit.ensures.0 c.if-not-fits_unit.false) c.loop-unit.invariant

pub returns : goal.returns
returns c = (
  λ t. seen_fits c.args.units.now c.args.note.now (sym c.len.ensures ∙ c.if-len-units.false)
      (below_whole (FitsUnit c.args.note.now) c.args.units.now c.loop-unit.unit c.loop-unit-test.false c.loop-unit.invariant),
  λ fits. refl,
)
