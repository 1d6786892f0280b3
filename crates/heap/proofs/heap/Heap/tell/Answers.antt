use Rattle.std.proofs.Common.{◌≡◌, rules, refl, ap, subst, sym, ◌∙◌, true}
use Rattle.mont_base.specs.Layout.{units_of}
use Rattle.core_steps.specs.Stages.{is_idle}
use Rattle.core_steps.specs.Announcing.{can_tell}
use Rattle.heap_rule.specs.Views.{Seated, the_unit, are_clean}
use Rattle.heap_rule.proofs.SeatedPlays.{tells_as}
use Rattle.heap.specs.HeapShown.{HeapShown, UnitShown}
use Rattle.heap.proofs.AnsweredSeats.{told_keeps}
use Rattle.heap.proofs.SeatTables.{unit_table, word_inside, place_announced, tell_rests}
use Rattle.heap.proofs.heap.Heap.tell.Goals as goal

pub store-requires : goal.store-requires
store-requires g c =
    let s = c.seat.invariant in
    let may = ap (λ (x : UnitShown). can_tell x.known.part c.args.epoch) c.seat.view_is ∙ c.requires.may in
    let place = c.announcement-place.ensures in (
      unit_table _ _ _ _ c.seat.view_is c.requires.heap c.self.view_is,
      word_inside _ _ _ c.self.view_is place.inside,
      tells_as _ _ _ _ _ _ _ _ (ap (λ (x : Seated). x.0) s.whole) (place_announced _ _ _ _ _ c.seat.view_is c.self.view_is place.place)
          refl may
          (subst (λ (z : HeapShown × UnitShown). is_idle z.1.known.part.stage ≡ true
          → are_clean (units_of z.0.opening.layout) z.1.known.clean ≡ true) (λ j.
          (sym c.self.view_is j, sym c.seat.view_is j)) c.requires.clean)
          (s.rests (tell_rests (the_unit c.seat.inside.seat.me.0).part c.args.epoch may)),
    )

pub invariant_of-seat : goal.invariant_of-seat
invariant_of-seat g c = told_keeps _ _ _ _ _ _ c.seat.inside.seat.me c.seat.invariant _ _ c.args.epoch (search rules)
    (ap (λ (x : UnitShown). can_tell x.known.part c.args.epoch) c.seat.view_is ∙ c.requires.may) (search rules)
