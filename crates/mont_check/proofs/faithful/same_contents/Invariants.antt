use Rattle.std.proofs.Common.{◌≡◌, take, map}
use Rattle.plain.specs.States.{state_of}
use Rattle.mont_check.proofs.faithful.same_contents.Given as goal

abbrev pub invariant-loop-unit : goal.invariant-loop-unit
invariant-loop-unit l = take l.unit (map state_of l.ours) ≡ take l.unit (map state_of l.theirs)
