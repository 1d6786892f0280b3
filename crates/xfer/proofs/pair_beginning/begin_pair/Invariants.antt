-- There is room in both units, no operation is under way, and no step was cut.
use Rattle.std.proofs.Common.{◌≡◌, false}
use Rattle.heap.specs.GateAsked.{IsAskedOften}
use Rattle.op_guard.specs.Guarding.{HasLearntOf}
use Rattle.xfer.specs.PairBeginning.{HasRoomIn}
use Rattle.xfer.proofs.pair_beginning.begin_pair.Given as goal

abbrev pub invariant-loop : goal.invariant-loop
invariant-loop g l = record {
  lower : HasRoomIn l.heap l.fn.low l.low l.fn.pass.ticket;
  higher : HasRoomIn l.heap l.fn.high l.high l.fn.pass.ticket;
  learnt : HasLearntOf l.high l.fn.pass.ticket;
  caller : l.pass.ticket ≡ l.fn.pass.ticket;
  receipts : l.pass.receipts ≡ l.fn.pass.receipts;
  gate : IsAskedOften g.G.Gate.cuts g.G.Gate.endless l.fn.pass.gate l.pass.gate false;
}
