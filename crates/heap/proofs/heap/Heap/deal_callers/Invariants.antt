use Rattle.std.proofs.Common.{◌≡◌, []}
use Rattle.mont_base.specs.Layout.{units_of}
use Rattle.heap_rule.specs.Views.{view_without}
use Rattle.heap.specs.Opens.{dealt_callers}
use Rattle.heap.proofs.heap.Heap.deal_callers.Given as goal

abbrev pub invariant-loop-number : goal.invariant-loop-number
invariant-loop-number l = record {
  dealt : l.tickets.items ≡ dealt_callers l.self.table l.self.opening l.number;
  table : l.all.table_id ≡ l.initial.all.table_id;
  view : l.all.me ≡ (view_without l.self.opening (units_of l.self.opening.layout) l.number, []);
}
