use Rattle.std.proofs.Common.{◌≡◌}
use Rattle.heap_rule.specs.Views.{with_units}
use Rattle.heap.specs.Stops.{AreAtHome, AreUnitsOf, units_view}
use Rattle.heap.proofs.heap.Heap.gather_units.Given as goal

abbrev pub invariant-loop-unit : goal.invariant-loop-unit
invariant-loop-unit l = record {
  of_heap : AreUnitsOf l.self l.unit-iterator.rest.items;
  at_home : AreAtHome l.unit-iterator.rest.items;
  table : l.all.table_id ≡ l.initial.all.table_id;
  view : l.all.me ≡ (with_units l.initial.all.me.0 (units_view l.yielded), l.initial.all.me.1);
}
