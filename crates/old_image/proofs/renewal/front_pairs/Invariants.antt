use Rattle.std.proofs.Common.{◌≡◌, map, take}
use Rattle.std.specs.Prelude.{All}
use Rattle.mont_base.specs.declared.kinds.UnitKind.TheVariants as kinds
use Rattle.old_image.specs.OldStructure.{renewed_object}
use Rattle.old_image.specs.Renewal.{HoldsNumbers}
use Rattle.old_image.proofs.renewal.front_pairs.Given as goal

-- the objects so far
abbrev pub invariant-loop-object : goal.invariant-loop-object
invariant-loop-object l = record {
  numbers : All HoldsNumbers (take l.object-index l.objects);
  pairs_are : l.pairs.items ≡ map (renewed_object kinds.Map) (take l.object-index l.objects);
}
