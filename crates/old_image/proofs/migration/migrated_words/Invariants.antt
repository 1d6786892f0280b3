use Rattle.std.proofs.Common.{◌≡◌, ℕ, ◌*◌, ◌<◌, ◌∷◌}
use Rattle.std.specs.List.{flat_map, range_with_len}
use Rattle.mont_base.specs.Image.{clock_of}
use Rattle.old_image.specs.Migration.{migrated_slot}
use Rattle.old_image.specs.OldSlots.{objects_in}
use Rattle.old_image.specs.Renewal.{RenewsUnit}
use Rattle.old_image.proofs.migration.migrated_words.Given as goal

-- the clock, and the slots of the units so far, each of which makes a structure
abbrev pub invariant-loop-unit : goal.invariant-loop-unit
invariant-loop-unit l = record {
  words : l.words.items ≡ clock_of l.wide ∷ flat_map (migrated_slot l.layout l.wide) (range_with_len 0 (l.unit * l.layout.slots));
  kept : (unit : ℕ) → unit < l.unit → RenewsUnit l.layout unit (objects_in l.layout l.wide unit);
}
