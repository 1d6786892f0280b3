use Rattle.job_store.specs.JobGates.{AreGates}
use Rattle.job_store.proofs.job_gates.gates_of.Given as goal

-- the gates of the callers so far
abbrev pub invariant-loop-caller : goal.invariant-loop-caller
invariant-loop-caller l = AreGates l.job.stops l.caller l.gates.items
