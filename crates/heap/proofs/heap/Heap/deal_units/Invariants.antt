use Rattle.std.proofs.Common.{◌≡◌, []}
use Rattle.heap_rule.specs.Views.{view_without}
use Rattle.heap.specs.Opens.{dealt_units}
use Rattle.heap.proofs.heap.Heap.deal_units.Given as goal

abbrev pub invariant-loop-unit : goal.invariant-loop-unit
invariant-loop-unit l = record {
  dealt : l.units.items ≡ dealt_units l.self.table l.self.opening l.unit;
  table : l.all.table_id ≡ l.initial.all.table_id;
  view : l.all.me ≡ (view_without l.self.opening l.unit 0, []);
}
