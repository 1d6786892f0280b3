use Rattle.std.proofs.Common.{◌≡◌, ap, refl, subst, sym, arith, ◌∙◌, true}
use Rattle.mont_base.specs.Layout.{units_of}
use Rattle.core_steps.specs.Announcing.{can_freeze}
use Rattle.heap_rule.specs.Views.{the_unit, the_caller, are_clean, odd_announcement}
use Rattle.heap_rule.proofs.SeatedPlays.{freezes_as}
use Rattle.heap.specs.HeapShown.{HeapShown, UnitShown}
use Rattle.heap_rule.proofs.SeatPlays.{splits_whole, splits_callers, joins_callers}
use Rattle.heap.proofs.SeatTables.{unit_table, caller_table, word_inside, place_announced, joined_pair}
use Rattle.heap.proofs.heap.Heap.freeze.Goals as goal

pub split_seat-whole-requires : goal.split_seat-whole-requires
split_seat-whole-requires c =
    let words = c.self.invariant.words in
    (caller_table _ _ _ _ c.ticket.view_is c.requires.ticket c.self.view_is, omega (arith, words), splits_whole _ _ _)

pub join_seat-requires : goal.join_seat-requires
join_seat-requires c =
    let words = c.self.invariant.words in
    let w = c.split_seat-whole.ensures in (
      unit_table _ _ _ _ c.seat.view_is c.requires.heap c.self.view_is,
      w.3 ∙ caller_table _ _ _ _ c.ticket.view_is c.requires.ticket c.self.view_is,
      ap (λ m. m.1) w.4,
      omega (arith, words),
      joins_callers _ _ _ _ _,
    )

pub split_seat-requires : goal.split_seat-requires
split_seat-requires c =
    let words = c.self.invariant.words in (
      c.store.ensures.0 ∙ (c.join_seat.ensures.0 ∙ unit_table _ _ _ _ c.seat.view_is c.requires.heap c.self.view_is),
      omega
          (arith, words),
      splits_callers _ _ _,
    )

pub store-requires : goal.store-requires
store-requires c =
    let place = c.announcement-place.ensures in
    let e = c.join_seat.ensures in
    let w = c.split_seat-whole.ensures in (
      e.0 ∙ unit_table _ _ _ _ c.seat.view_is c.requires.heap c.self.view_is,
      word_inside _ _ _ c.self.view_is place.inside,
      freezes_as _ _ _ _ _ _ (the_unit c.seat.inside.seat.me.0) (the_caller c.ticket.inside.seat.me.0) c.odd-odd.result
          (joined_pair _ _ _ _ _ (ap (λ m. m.0) e.2) (ap (λ m. m.0) c.seat.invariant.whole)
          (ap (λ m. m.0) w.4 ∙ ap (λ m. m.0) c.ticket.invariant.whole))
          (place_announced _ _ _ _ _ c.seat.view_is c.self.view_is place.place) refl
          (ap (λ (x : UnitShown). can_freeze x.known.part) c.seat.view_is ∙ c.requires.may)
          (subst (λ (z : HeapShown × UnitShown). are_clean (units_of z.0.opening.layout) z.1.known.clean ≡ true)
          (λ j. (sym c.self.view_is j, sym c.seat.view_is j)) c.requires.clean)
          (c.odd-odd.ensures ∙ ap (λ (x : UnitShown). odd_announcement x.known.part.stage) (sym c.seat.view_is)),
    )
