use Rattle.std.proofs.Common.{◌≡◌, ℕ, ◌<◌}
use Rattle.std.specs.List.{filter_map, range_with_len}
use Rattle.mont_base.specs.Image.{record_at}
use Rattle.scan.specs.Scanned.{IsReadAt}
use Rattle.old_image.proofs.old_records.read_records.Given as goal

-- the records of the slots so far, each of which was read
abbrev pub invariant-loop-slot : goal.invariant-loop-slot
invariant-loop-slot l = record {
  records : l.records.items ≡ filter_map (record_at l.layout l.wide) (range_with_len 0 l.slot);
  readable : (slot : ℕ) → slot < l.slot → IsReadAt l.layout l.wide slot;
}
