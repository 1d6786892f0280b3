use Rattle.std.proofs.Common.{◌≡◌, ◌*◌}
use Rattle.std.specs.List.{filter_map, range_with_len}
use Rattle.mont_base.specs.Image.{record_at}
use Rattle.plain.proofs.image.records.Given as goal

-- the records of the slots so far
abbrev pub invariant-loop-place : goal.invariant-loop-place
invariant-loop-place l = l.found.items ≡ filter_map (record_at l.layout l.image) (range_with_len (l.unit * l.layout.slots) l.place)
