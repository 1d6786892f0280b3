-- The gate cut none of the attempts so far.
use Rattle.std.proofs.Common.{false}
use Rattle.heap.specs.GateAsked.{IsAskedOften}
use Rattle.advance.specs.Attempts.{AreTries}
use Rattle.job_run.proofs.advances.make_attempts.Given as goal

abbrev pub invariant-loop-made : goal.invariant-loop-made
invariant-loop-made g l = record {
  gate : IsAskedOften g.S.Advances.gate_cuts g.S.Advances.gate_endless l.fn.gate l.gate false;
  tries : AreTries (g.S.Advances.tried l.store) l._made l.fn.gate l.gate;
}
