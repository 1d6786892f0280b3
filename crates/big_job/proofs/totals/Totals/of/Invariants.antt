use Rattle.std.proofs.Common.{◌≡◌, take, map}
use Rattle.plain.specs.States.{state_of}
use Rattle.big_job.specs.Totals.{totals_of}
use Rattle.big_job.proofs.totals.Totals.of.Given as goal

abbrev pub invariant-loop-state : goal.invariant-loop-state
invariant-loop-state l = l.totals ≡ totals_of (map state_of (take l.state-index l.state-items))
