use Rattle.std.proofs.Common.{◌≡◌, ◌+◌, ◌-◌, ◌*◌, ◌++◌}
use Rattle.std.specs.List.{filter_map, flat_map, range_with_len}
use Rattle.old_image.specs.Migration.{migrated_slot, object_at}
use Rattle.old_image.proofs.migration.push_unit.Given as goal

-- the slots so far were added, and the others hold the rest of the objects
abbrev pub invariant-loop-place : goal.invariant-loop-place
invariant-loop-place l = record {
  words : l.words.items ≡ l.initial.words.items ++ flat_map (migrated_slot l.layout l.wide)
      (range_with_len (l.unit * l.layout.slots) l.place);
  objects : l.rest ≡ filter_map (object_at l.layout l.wide)
      (range_with_len (l.unit * l.layout.slots + l.place) (l.layout.slots - l.place));
}
