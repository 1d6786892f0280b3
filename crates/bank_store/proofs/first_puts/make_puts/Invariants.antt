-- The first puts are made.
use Rattle.std.proofs.Common.{◌≡◌, take}
use Rattle.store.specs.StoreCalls.{IsSamePass}
use Rattle.bank_store.specs.OpenedAccounts.{HasMadePuts}
use Rattle.bank_store.proofs.first_puts.make_puts.Given as goal

abbrev pub invariant-loop-put : goal.invariant-loop-put
invariant-loop-put g l = record {
  table : l.pass.ticket.table ≡ g.N.HeapName.heap.table;
  same : IsSamePass l.fn.pass l.pass;
  made : HasMadePuts g.N.HeapName.heap l.fn.pass.ticket l.pass.ticket (take l.put-index l.puts);
}
