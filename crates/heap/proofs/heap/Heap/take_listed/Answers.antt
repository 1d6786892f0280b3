use Rattle.std.proofs.Common.{ℕ, ◌<◌, refl, ap, sym, subst, arith, ◌∙◌}
use Rattle.std.proofs.lemmas.Bool.{eqb-true}
use Rattle.core_steps.specs.Stages.{passed_of}
use Rattle.heap_rule.specs.Views.{Seated, the_advancer, advancer_took}
use Rattle.heap_rule.proofs.SeatedPlays.{takes_full_as, gives_empty_as}
use Rattle.heap.specs.HeapShown.{AdvShown}
use Rattle.heap.proofs.PushedSlots.{found_list, none_found}
use Rattle.heap.proofs.SeatTables.{advancer_table, full_slot, stood_slot}
use Rattle.heap.proofs.heap.Heap.take_listed.Goals as goal

pub load-requires : goal.load-requires
load-requires c =
    let s = c.seat.invariant in
    let words = c.self.invariant.words in
    let v = c.seat.view_is in
    let next = c.requires.next ∙ sym (ap (λ (x : AdvShown). x.known.turn.emptied) v) in (
      advancer_table _ _ _ _ c.seat.view_is c.requires.heap c.self.view_is,
      omega (arith, words),
      takes_full_as _ _ _ _ _ _ (ap (λ (x : Seated). x.0) s.whole) refl
          (subst (λ (z : ℕ × AdvShown). z.0 < z.1.known.units) (λ j. (next j, sym v j)) c.requires.inside)
          (subst (λ (z : ℕ × AdvShown). z.0 < passed_of z.1.known.units z.1.known.part) (λ j. (next j, sym v j)) c.requires.passed)
          (ap (λ (x : AdvShown). x.known.turn.out) v ∙ c.requires.home),
    )

pub slot_mut-requires : goal.slot_mut-requires
slot_mut-requires c = (
  c.load.ensures.0 ∙ advancer_table _ _ _ _ c.seat.view_is c.requires.heap c.self.view_is,
  full_slot _ _ _ _ _ c.seat.inside.seat.me c.seat.invariant _ _ _ c.place-place.ensures
      (c.requires.next ∙ sym (ap (λ (x : AdvShown). x.known.turn.emptied) c.seat.view_is)) c.load.ensures.2.0,
)

pub load-seat-inside-requires : goal.load-seat-inside-requires
load-seat-inside-requires c =
    let s = c.seat.invariant in
    let words = c.self.invariant.words in
    let v = c.seat.view_is in
    let next = c.requires.next ∙ sym (ap (λ (x : AdvShown). x.known.turn.emptied) v) in
    let home = ap (λ (x : AdvShown). x.known.turn.out) v ∙ c.requires.home in
    let found =
    found_list _ _ _ _ _ _ _ _ c.slot_mut.ensures.value c.in-Some.is (ap (λ (x : Seated). x.1) c.load.ensures.2.0) in (
      c.load.ensures.0 ∙ advancer_table _ _ _ _ c.seat.view_is c.requires.heap c.self.view_is,
      omega (arith, words),
      gives_empty_as _ _ _ _ _ (advancer_took (the_advancer c.seat.inside.seat.me.0))
          (stood_slot _ _ _ _ _ c.seat.inside.seat.me s _ _ _ c.in-Some.list home c.place-place.ensures next c.load.ensures.2.0
          (none_found c.in-Some.list _ _ found (eqb-true _ 0 (sym c.is_empty-empty.ensures ∙ c.if-not-empty.false))))
          refl (subst (λ (z : ℕ × AdvShown). z.0 < z.1.known.units) (λ j. (next j, sym v j)) c.requires.inside) refl,
    )
