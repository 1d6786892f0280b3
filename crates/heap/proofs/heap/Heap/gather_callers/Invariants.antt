use Rattle.std.proofs.Common.{◌≡◌}
use Rattle.heap_rule.specs.Views.{with_callers}
use Rattle.heap.specs.Stops.{AreCallersOf, callers_view}
use Rattle.heap.proofs.heap.Heap.gather_callers.Given as goal

abbrev pub invariant-loop-ticket : goal.invariant-loop-ticket
invariant-loop-ticket l = record {
  of_heap : AreCallersOf l.self l.ticket-iterator.rest.items;
  table : l.all.table_id ≡ l.initial.all.table_id;
  view : l.all.me ≡ (with_callers l.initial.all.me.0 (callers_view l.yielded), l.initial.all.me.1);
}
