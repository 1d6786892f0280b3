use Rattle.std.proofs.Common.{◌≡◌, ◌≤◌}
use Rattle.std.specs.List.{count_by, range_with_len}
use Rattle.scan.specs.Scanned.{is_lost}
use Rattle.image_info.proofs.unit_counts.lost_slots.Given as goal

-- those of the slots so far that are beyond the cut
abbrev pub invariant-loop-place : goal.invariant-loop-place
invariant-loop-place l = record {
  counted : l.lost ≡ count_by (is_lost l.wide) (range_with_len l.first l.place);
  few : l.lost ≤ l.place;
}
