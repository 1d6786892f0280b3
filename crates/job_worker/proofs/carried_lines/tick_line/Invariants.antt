-- No tick so far moved the clock, and none was cut.
use Rattle.std.proofs.Common.{false}
use Rattle.heap.specs.GateAsked.{IsAskedOften}
use Rattle.job_worker.specs.Asking.{KeepsAnswers}
use Rattle.job_worker.proofs.carried_lines.tick_line.Given as goal

abbrev pub invariant-loop : goal.invariant-loop
invariant-loop g l = record {
  has : g.S.Asks.has l.fn.store l.pass;
  gate : IsAskedOften g.S.Asks.cuts g.S.Asks.endless l.fn.pass l.pass false;
  keeps : KeepsAnswers (g.S.Asks.known l.fn.pass) (g.S.Asks.known l.pass);
}
