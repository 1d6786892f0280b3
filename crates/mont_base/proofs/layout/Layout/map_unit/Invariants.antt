use Rattle.std.proofs.Common.{◌≡◌, drop}
use Rattle.std.specs.Prelude.{slice_get}
use Rattle.mont_base.specs.declared.kinds.UnitKind.TheVariants as kinds
use Rattle.mont_base.specs.Layout.{units_from}
use Rattle.mont_base.proofs.layout.Layout.map_unit.Given as goal

-- what is left to pass of the map units among those that are left
abbrev pub invariant-loop-unit : goal.invariant-loop-unit
invariant-loop-unit l =
    slice_get (units_from l.unit kinds.Map (drop l.unit l.kind-items)) l.left
    ≡ slice_get (units_from 0 kinds.Map l.kind-items) l.number
