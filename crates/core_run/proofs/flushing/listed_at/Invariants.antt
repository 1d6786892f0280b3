use Rattle.std.proofs.Common.{◌≡◌, ◌+◌, length, take}
use Rattle.std.specs.List.{flat_map}
use Rattle.core_steps.specs.Flushing.{unit_list}
use Rattle.core_run.proofs.flushing.listed_at.Given as goal

-- how far the place is from the end of the lists of the units so far
abbrev pub invariant-loop-part : goal.invariant-loop-part
invariant-loop-part l = l.place ≡ length (flat_map (unit_list l.epoch) (take l.part-index l.core.units)) + l.left
