use Rattle.std.proofs.Common.{refl, ap, arith, ◌∙◌}
use Rattle.core_steps.specs.Stages.{is_within}
use Rattle.heap_rule.specs.Views.{Seated}
use Rattle.heap_rule.proofs.SeatedPlays.{takes_list_as}
use Rattle.heap.specs.HeapShown.{UnitShown}
use Rattle.heap.proofs.SeatTables.{unit_table, took_slot}
use Rattle.heap.proofs.heap.Heap.take_list.Goals as goal

pub load-requires : goal.load-requires
load-requires c =
    let s = c.seat.invariant in
    let words = c.self.invariant.words in (
      unit_table _ _ _ _ c.seat.view_is c.requires.heap c.self.view_is,
      omega (arith, words),
      takes_list_as _ _ _ _ _ _ (ap (λ (x : Seated). x.0) s.whole) refl
          (ap (λ (x : UnitShown). is_within x.known.part.stage) c.seat.view_is ∙ c.requires.may)
          (ap (λ (x : UnitShown). x.known.turn.out) c.seat.view_is ∙ c.requires.home),
    )

pub exchange-requires : goal.exchange-requires
exchange-requires c = (
  c.load.ensures.0 ∙ unit_table _ _ _ _ c.seat.view_is c.requires.heap c.self.view_is,
  took_slot _ _ _ _ _ _ c.seat.inside.seat.me c.seat.invariant _ _ c.place-place.ensures c.load.ensures.2.0,
)
