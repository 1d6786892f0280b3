use Rattle.std.proofs.Common.{◌≡◌, ◌++◌}
use Rattle.std.specs.List.{filter_map, range_with_len}
use Rattle.image_info.specs.AllFaults.{slot_fault_at}
use Rattle.image_info.proofs.slot_faults.push_slot_faults.Given as goal

-- the faults of the slots so far
abbrev pub invariant-loop-slot : goal.invariant-loop-slot
invariant-loop-slot l =
    l.faults.items ≡ l.initial.faults.items ++ filter_map (slot_fault_at l.layout l.wide) (range_with_len 0 l.slot)
