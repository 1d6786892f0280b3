use Rattle.std.proofs.Common.{◌≡◌, take}
use Rattle.std.specs.List.{flat_map}
use Rattle.core_steps.specs.Flushing.{unit_list}
use Rattle.core_run.proofs.flushing.flush_list.Given as goal

-- the lists of the units so far
abbrev pub invariant-loop-part : goal.invariant-loop-part
invariant-loop-part l = l.slots.items ≡ flat_map (unit_list l.epoch) (take l.part-index l.core.units)
