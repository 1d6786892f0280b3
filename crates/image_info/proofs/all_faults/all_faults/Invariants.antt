use Rattle.std.proofs.Common.{◌≡◌, ◌++◌}
use Rattle.image_info.specs.AllFaults.{repeats, slot_faults, unit_faults_below}
use Rattle.image_units.specs.Found.{all_records}
use Rattle.image_info.proofs.all_faults.all_faults.Given as goal

-- after the others, the faults of the objects of the units so far
abbrev pub invariant-loop-unit : goal.invariant-loop-unit
invariant-loop-unit l =
    l.faults.items
    ≡ slot_faults l.image.layout l.wide ++ repeats (all_records l.image.layout l.wide)
    ++ unit_faults_below l.image.old l.image.layout l.wide l.unit
