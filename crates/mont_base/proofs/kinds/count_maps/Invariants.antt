use Rattle.std.proofs.Common.{◌≡◌, ◌+◌, ◌≤◌, length, drop}
use Rattle.mont_base.specs.declared.kinds.UnitKind.TheVariants as kinds
use Rattle.mont_base.specs.Layout.{units_from}
use Rattle.mont_base.proofs.kinds.count_maps.Given as goal

-- the map units so far, and those among the units that are left
abbrev pub invariant-loop-kind : goal.invariant-loop-kind
invariant-loop-kind l = record {
  few : l.maps ≤ l.kind-index;
  counted :
      l.maps + length (units_from l.kind-index kinds.Map (drop l.kind-index l.kinds))
      ≡ length (units_from 0 kinds.Map l.kinds);
}
