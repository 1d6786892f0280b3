-- The durable clocks that were loaded so far were short.
use Rattle.std.proofs.Common.{◌≡◌, false}
use Rattle.heap.specs.GateAsked.{IsAskedOften}
use Rattle.caller.specs.Syncing.{HasWaited}
use Rattle.caller.proofs.syncing.sync.Given as goal

abbrev pub invariant-loop : goal.invariant-loop
invariant-loop g l = record {
  waited : HasWaited l.fn.pass.ticket l.pass.ticket;
  receipts : l.pass.receipts ≡ l.fn.pass.receipts;
  gate : IsAskedOften g.G.Gate.cuts g.G.Gate.endless l.fn.pass.gate l.pass.gate false;
}
