use Rattle.std.proofs.Common.{◌≡◌, ◌++◌, take}
use Rattle.core_run.proofs.FlushPlaces.{slots_at}
use Rattle.core_run.proofs.flushing.list_unit.Given as goal

-- the slots before, and those of the records so far
abbrev pub invariant-loop-held : goal.invariant-loop-held
invariant-loop-held l = l.slots.items ≡ l.initial.slots.items ++ slots_at l.epoch (take l.held-index l.part.records)
