-- The first shifts are made.
use Rattle.std.proofs.Common.{◌≡◌, take}
use Rattle.store.specs.StoreCalls.{IsSamePass}
use Rattle.bank_store.specs.MadeShifts.{HasMadeShifts}
use Rattle.bank_store.proofs.shift_making.make_shifts.Given as goal

abbrev pub invariant-loop-shift : goal.invariant-loop-shift
invariant-loop-shift g l = record {
  table : l.pass.ticket.table ≡ g.N.HeapName.heap.table;
  same : IsSamePass l.fn.pass l.pass;
  made : HasMadeShifts g.N.HeapName.heap l.fn.pass.ticket l.pass.ticket (take l.shift-index l.shifts);
}
