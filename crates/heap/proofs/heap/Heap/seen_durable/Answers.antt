use Rattle.std.proofs.Common.{ap}
use Rattle.heap_rule.specs.Views.{Seated}
use Rattle.heap_rule.proofs.SeatedPlays.{sees_durable_as}
use Rattle.heap.proofs.SeatTables.{caller_table, word_inside, place_durable}
use Rattle.heap.proofs.heap.Heap.seen_durable.Goals as goal

pub load-clock-requires : goal.load-clock-requires
load-clock-requires g c =
    let place = c.durable_clock-place.ensures in (
      caller_table _ _ _ _ c.ticket.view_is c.requires.heap c.self.view_is,
      word_inside _ _ _ c.self.view_is place.inside,
      sees_durable_as _ _ _ _ _ _ (ap (λ (x : Seated). x.0) c.ticket.invariant.whole) (place_durable _ 0 _ _ c.self.view_is place.place),
    )
