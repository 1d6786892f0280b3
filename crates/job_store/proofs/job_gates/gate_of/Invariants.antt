use Rattle.std.proofs.Common.{◌≡◌, drop}
use Rattle.job_store.specs.JobGates.{gate_of}
use Rattle.job_store.proofs.job_gates.gate_of.Given as goal

-- none of the stops so far is that of this number
abbrev pub invariant-loop-stop : goal.invariant-loop-stop
invariant-loop-stop l = gate_of l.stops l.who ≡ gate_of (drop l.stop-index l.stops) l.who
