use Rattle.std.proofs.Common.{◌≡◌, ◌≤◌}
use Rattle.std.specs.List.{count_by, range_with_len}
use Rattle.image_info.specs.UnitCounts.{is_free}
use Rattle.image_info.proofs.unit_counts.free_slots.Given as goal

-- the closed ones of the slots so far
abbrev pub invariant-loop-place : goal.invariant-loop-place
invariant-loop-place l = record {
  counted : l.free ≡ count_by (is_free l.wide) (range_with_len l.first l.place);
  few : l.free ≤ l.place;
}
