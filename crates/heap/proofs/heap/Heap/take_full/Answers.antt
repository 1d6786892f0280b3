use Rattle.std.proofs.Common.{ℕ, ◌<◌, refl, ap, sym, subst, arith, ◌∙◌}
use Rattle.core_steps.specs.Stages.{passed_of}
use Rattle.heap_rule.specs.Views.{Seated}
use Rattle.heap_rule.proofs.SeatedPlays.{takes_full_as}
use Rattle.heap.specs.HeapShown.{AdvShown}
use Rattle.heap.proofs.SeatTables.{advancer_table, full_slot}
use Rattle.heap.proofs.heap.Heap.take_full.Goals as goal

pub load-requires : goal.load-requires
load-requires c =
    let s = c.seat.invariant in
    let words = c.self.invariant.words in
    let v = c.seat.view_is in
    let next = c.requires.next ∙ sym (ap (λ (x : AdvShown). x.known.turn.emptied) v) in (
      advancer_table _ _ _ _ c.seat.view_is c.requires.heap c.self.view_is,
      omega (arith, words),
      takes_full_as _ _ _ _ _ _ (ap (λ (x : Seated). x.0) s.whole) refl
          (subst (λ (z : ℕ × AdvShown). z.0 < z.1.known.units) (λ j. (next j, sym v j)) c.requires.inside)
          (subst (λ (z : ℕ × AdvShown). z.0 < passed_of z.1.known.units z.1.known.part) (λ j. (next j, sym v j)) c.requires.passed)
          (ap (λ (x : AdvShown). x.known.turn.out) v ∙ c.requires.home),
    )

pub exchange-requires : goal.exchange-requires
exchange-requires c = (
  c.load.ensures.0 ∙ advancer_table _ _ _ _ c.seat.view_is c.requires.heap c.self.view_is,
  full_slot _ _ _ _ _ c.seat.inside.seat.me c.seat.invariant _ _ _ c.place-home.ensures
      (c.requires.next ∙ sym (ap (λ (x : AdvShown). x.known.turn.emptied) c.seat.view_is)) c.load.ensures.2.0,
)

pub place-home-requires : goal.place-home-requires
place-home-requires c =
    let inside = c.requires.inside in
    let few = c.seat.invariant.few in
    let same = ap (λ (x : AdvShown). x.known.units) c.seat.view_is in
    omega (arith, inside, few, same)
