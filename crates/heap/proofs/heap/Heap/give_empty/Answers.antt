use Rattle.std.proofs.Common.{ℕ, ◌<◌, [], refl, ap, sym, subst, arith, ◌∙◌}
use Rattle.mont_base.specs.SlotLists.{Roomy}
use Rattle.heap_rule.specs.declared.views.AdvKnown.{AdvKnown}
use Rattle.heap_rule.proofs.SeatedPlays.{gives_empty_as}
use Rattle.heap.specs.HeapShown.{AdvShown}
use Rattle.heap.proofs.SeatTables.{advancer_table, empty_slot, out_full}
use Rattle.heap.proofs.heap.Heap.give_empty.Goals as goal

abbrev none_of : AdvKnown → Roomy
none_of a = record { slots = []; room = a.room }

pub exchange-requires : goal.exchange-requires
exchange-requires c =
    let v = c.seat.view_is in (
      advancer_table _ _ _ _ c.seat.view_is c.requires.heap c.self.view_is,
      out_full _ _ _ _ _ c.seat.inside.seat.me c.seat.invariant _ _ (ap (λ (x : AdvShown). x.known.turn.out) v ∙ c.requires.out)
          c.place-home.ensures (c.requires.next ∙ sym (ap (λ (x : AdvShown). x.known.turn.emptied) v)),
    )

pub load-seat-inside-requires : goal.load-seat-inside-requires
load-seat-inside-requires c =
    let s = c.seat.invariant in
    let words = c.self.invariant.words in
    let e = c.exchange.ensures in
    let v = c.seat.view_is in
    let next = c.requires.next ∙ sym (ap (λ (x : AdvShown). x.known.turn.emptied) v) in
    let away = ap (λ (x : AdvShown). x.known.turn.out) v ∙ c.requires.out in (
      e.0 ∙ advancer_table _ _ _ _ c.seat.view_is c.requires.heap c.self.view_is,
      omega (arith, words),
      gives_empty_as _ _ _ _ _ _
          (empty_slot _ _ _ _ _ c.seat.inside.seat.me s _ _ _ _ away c.place-home.ensures next e.3
          (c.requires.empty ∙ sym (ap (λ (x : AdvShown). none_of x.known) v)))
          refl (subst (λ (z : ℕ × AdvShown). z.0 < z.1.known.units) (λ j. (next j, sym v j)) c.requires.inside) away,
    )

pub place-home-requires : goal.place-home-requires
place-home-requires c =
    let inside = c.requires.inside in
    let few = c.seat.invariant.few in
    let same = ap (λ (x : AdvShown). x.known.units) c.seat.view_is in
    omega (arith, inside, few, same)
