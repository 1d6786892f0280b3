use Rattle.std.proofs.Common.{◌≡◌, ◌+◌, length, take}
use Rattle.core_run.proofs.FlushPlaces.{slots_at}
use Rattle.core_run.proofs.flushing.listed_in.Given as goal

-- how far the place is from the end of the list of the records so far
abbrev pub invariant-loop-held : goal.invariant-loop-held
invariant-loop-held l = l.place ≡ length (slots_at l.epoch (take l.held-index l.part.records)) + l.left
