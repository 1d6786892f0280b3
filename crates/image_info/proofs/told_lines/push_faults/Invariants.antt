use Rattle.std.proofs.Common.{◌≡◌, ◌++◌, take}
use Rattle.std.specs.List.{flat_map}
use Rattle.std.specs.String.{string_bytes}
use Rattle.image_info.specs.ToldLines.{fault_line}
use Rattle.image_info.proofs.told_lines.push_faults.Given as goal

-- the lines so far
abbrev pub invariant-loop-fault : goal.invariant-loop-fault
invariant-loop-fault l =
    string_bytes l.text ≡ string_bytes l.initial.text ++ flat_map (fault_line l.image) (take l.fault-index l.faults)
