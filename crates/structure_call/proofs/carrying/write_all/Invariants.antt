use Rattle.std.proofs.Common.{◌≡◌, take, false}
use Rattle.heap.specs.GateAsked.{IsAskedOften}
use Rattle.structure_call.specs.Carrying.{HasWrittenAll}
use Rattle.structure_call.proofs.carrying.write_all.Given as goal

-- those before the index are written, and no step was cut
abbrev pub invariant-loop-one : goal.invariant-loop-one
invariant-loop-one g l = record {
  gate : IsAskedOften g.G.Gate.cuts g.G.Gate.endless l.fn.pass.gate l.pass.gate false;
  receipts : l.pass.receipts ≡ l.fn.pass.receipts;
  written : HasWrittenAll l.heap l.fn.region l.region l.fn.guard l.guard (take l.one-index l.changes) l.slot;
  caller : l.pass.ticket ≡ l.fn.pass.ticket;
}
