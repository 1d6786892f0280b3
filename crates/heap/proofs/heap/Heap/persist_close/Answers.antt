use Rattle.std.proofs.Common.{subst, sym}
use Rattle.core_steps.specs.Closing.{CanPersistClose}
use Rattle.heap_rule.specs.Views.{the_unit}
use Rattle.heap.specs.HeapShown.{UnitShown}
use Rattle.heap.proofs.SeatTables.{persist_close_rests}
use Rattle.heap.proofs.heap.Heap.persist_close.Goals as goal

pub store_closed-requires-clause-home : goal.store_closed-requires-clause-home
store_closed-requires-clause-home g c =
    c.seat.invariant.rests (persist_close_rests (the_unit c.seat.inside.seat.me.0).part c.args.slot
    (subst (λ (x : UnitShown). CanPersistClose x.known.part c.args.slot) (sym c.seat.view_is) c.requires.may))
