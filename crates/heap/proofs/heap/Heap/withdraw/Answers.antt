use Rattle.std.proofs.Common.{◌≡◌, refl, ap, subst, sym, ◌∙◌, true}
use Rattle.core_steps.specs.Announcing.{can_withdraw}
use Rattle.core_steps.specs.Stages.{is_within}
use Rattle.heap_rule.specs.Views.{Seated, home_turn, the_unit}
use Rattle.heap_rule.proofs.SeatedPlays.{withdraws_as}
use Rattle.heap.specs.HeapShown.{UnitShown}
use Rattle.heap.proofs.SeatTables.{unit_table, word_inside, place_announced, withdraw_rests}
use Rattle.heap.proofs.heap.Heap.withdraw.Goals as goal

pub store-requires : goal.store-requires
store-requires g c =
    let s = c.seat.invariant in
    let place = c.announcement-place.ensures in (
      unit_table _ _ _ _ c.seat.view_is c.requires.heap c.self.view_is,
      word_inside _ _ _ c.self.view_is place.inside,
      withdraws_as _ _ _ _ _ _ _ (ap (λ (x : Seated). x.0) s.whole) (place_announced _ _ _ _ _ c.seat.view_is c.self.view_is
          place.place) refl
          (ap (λ (x : UnitShown). can_withdraw x.known.part) c.seat.view_is ∙ c.requires.may)
          (withdraw_rests (the_unit c.seat.inside.seat.me.0) s.rests
          (subst (λ (x : UnitShown). is_within x.known.part.stage ≡ true → x.known.turn ≡ home_turn) (sym c.seat.view_is)
          c.requires.home)),
    )
