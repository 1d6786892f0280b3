use Rattle.std.proofs.Common.{◌≡◌, replicate}
use Rattle.core_steps.specs.Fresh.{fresh_unit}
use Rattle.core_steps.proofs.fresh.fresh_units.Given as goal

abbrev pub invariant-loop-unit : goal.invariant-loop-unit
invariant-loop-unit l = l.units ≡ replicate l._unit fresh_unit
