use Rattle.std.proofs.Common.{refl, ap, subst, sym}
use Rattle.core_steps.specs.Storing.{IsFreeSlot, CanStore}
use Rattle.heap_rule.specs.Views.{Seated}
use Rattle.heap_rule.proofs.SeatedPlays.{stores_as}
use Rattle.heap_rule.proofs.StorePlays.{can_field}
use Rattle.heap.specs.HeapShown.{HeapShown, UnitShown}
use Rattle.heap.proofs.SeatTables.{unit_table, word_inside, slot_inside}
use Rattle.heap.proofs.heap.Heap.store_word.Goals as goal

pub current-place-requires : goal.current-place-requires
current-place-requires g c = record {
  slot = c.requires.slot;
  field = can_field _ _ _ c.args.slot c.args.field c.args.value
      c.requires.may;
}

pub store-requires : goal.store-requires
store-requires g c =
    let s = c.seat.invariant in
    let place = c.current-place.ensures in (
      unit_table _ _ _ _ c.seat.view_is c.requires.heap c.self.view_is,
      word_inside _ _ _ c.self.view_is place.inside,
      stores_as _ _ _ _ _ _ _ c.args.slot c.args.field c.args.value (ap (λ (x : Seated). x.0) s.whole) place.place refl
          (subst (λ (z : HeapShown × UnitShown). CanStore (IsFreeSlot z.0.opening.layout z.1.known.unit z.1.known.part c.args.slot)
          z.1.known.unit z.1.known.part c.args.slot c.args.field c.args.value) (λ j.
          (sym c.self.view_is j, sym c.seat.view_is j)) c.requires.may)
          (slot_inside _ _ _ c.self.view_is c.requires.slot),
    )
