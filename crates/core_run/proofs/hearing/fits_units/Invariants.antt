use Rattle.plain.proofs.Each.{EachBelow}
use Rattle.core_run.specs.Hearing.{FitsUnit}
use Rattle.core_run.proofs.hearing.fits_units.Given as goal

-- the fronts so far fit
abbrev pub invariant-loop-unit : goal.invariant-loop-unit
invariant-loop-unit l = EachBelow (FitsUnit l.note) l.units l.unit
