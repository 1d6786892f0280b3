-- The words below the field are durable.
use Rattle.std.proofs.Common.{◌≡◌, ◌<◌, ◌≤◌}
use Rattle.heap_rule.specs.Plays.{IsPlaceListed}
use Rattle.heap_rule.specs.Views.{the_advancer}
use Rattle.heap.proofs.FlushedWords.{HasFlushed, at_field}
use Rattle.heap.proofs.heap.Heap.flush_fields.Given as goal

abbrev pub invariant-loop-field : goal.invariant-loop-field
invariant-loop-field g l = record {
  table : l.seat.table_id ≡ l.fn.seat.table_id;
  from : l.first ≤ l.field;
  flushed : HasFlushed g.G.Gate.cuts g.G.Gate.endless g.G.Gate.asked l.fn.seat.me l.fn.gate l.seat.me l.gate (at_field l.done l.field);
  listed : l.first < l.field → IsPlaceListed (the_advancer l.fn.seat.me.0);
}
