use Rattle.std.proofs.Common.{◌≡◌}
use Rattle.std.specs.List.{filter_map, range_with_len}
use Rattle.mont_base.specs.Image.{record_at}
use Rattle.image_info.proofs.all_records.all_records.Given as goal

-- the records of the slots so far
abbrev pub invariant-loop-slot : goal.invariant-loop-slot
invariant-loop-slot l = l.found.items ≡ filter_map (record_at l.layout l.wide) (range_with_len 0 l.slot)
