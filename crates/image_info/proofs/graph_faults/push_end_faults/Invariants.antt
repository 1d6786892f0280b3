use Rattle.std.proofs.Common.{◌≡◌, ◌++◌, take}
use Rattle.std.specs.List.{filter_map}
use Rattle.image_info.specs.AllFaults.{end_fault_at}
use Rattle.image_info.proofs.graph_faults.push_end_faults.Given as goal

-- the edges so far that lack an end
abbrev pub invariant-loop-object : goal.invariant-loop-object
invariant-loop-object l =
    l.faults.items ≡ l.initial.faults.items ++ filter_map (end_fault_at l.unit l.objects) (take l.object-index l.objects)
