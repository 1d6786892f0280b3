-- The heap that is named before one is chosen.
use Rattle.std.specs.Prelude.{[]}
use Rattle.atomic_table.specs.Seated.{TableId}
use Rattle.heap_rule.specs.Views.{some_opening}
use Rattle.heap.specs.HeapShown.{HeapShown}

abbrev pub no_table : TableId
no_table = record {
  words = 0;
  slots = 0;
  views_name = 0;
  atom = 0;
  block = 0;
  offset = 0;
  slot_names = [];
}

abbrev pub no_heap : HeapShown
no_heap = record { table = no_table; opening = some_opening }
