-- The lines so far have their outcomes, and the caller wasn't cut.
use Rattle.std.proofs.Common.{◌≡◌, false, length, take}
use Rattle.heap.specs.GateAsked.{IsAskedOften}
use Rattle.job_text.specs.Report.{lines_by}
use Rattle.job_worker.specs.Ending.{AreUncut, AreEnds}
use Rattle.job_worker.proofs.worker.work.Given as goal

abbrev pub invariant-loop-line : goal.invariant-loop-line
invariant-loop-line g l = record {
  has : g.S.Asks.has l.fn.store l.pass;
  gate : IsAskedOften g.S.Asks.cuts g.S.Asks.endless l.fn.pass l.pass false;
  count : length l.outcomes.items ≡ length (lines_by l.fn.caller (take l.line-index l.lines));
  uncut : AreUncut l.outcomes.items;
  ends : AreEnds (g.S.Asks.opening l.fn.store) (g.S.Asks.known l.fn.pass) (g.S.Asks.known l.pass) (lines_by l.fn.caller l.lines)
      l.outcomes.items;
}
