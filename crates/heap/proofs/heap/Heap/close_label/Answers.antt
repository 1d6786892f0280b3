use Rattle.std.proofs.Common.{refl, ap, subst, sym}
use Rattle.core_steps.specs.Closing.{CanClose}
use Rattle.heap_rule.specs.Views.{Seated, the_unit}
use Rattle.heap_rule.proofs.SeatedPlays.{closes_label_as}
use Rattle.heap.specs.HeapShown.{UnitShown}
use Rattle.heap.proofs.SeatTables.{unit_table, word_inside, slot_inside, close_label_rests}
use Rattle.heap.proofs.heap.Heap.close_label.Goals as goal

pub store-requires : goal.store-requires
store-requires g c =
    let s = c.seat.invariant in
    let place = c.current-place.ensures in
    let may = subst (λ (x : UnitShown). CanClose x.known.part c.args.slot) (sym c.seat.view_is) c.requires.may in (
      unit_table _ _ _ _ c.seat.view_is c.requires.heap c.self.view_is,
      word_inside _ _ _ c.self.view_is place.inside,
      closes_label_as _ _ _ _ _ _ _ c.args.slot (ap (λ (x : Seated). x.0) s.whole) place.place refl may
          (slot_inside _ _ _ c.self.view_is c.requires.slot) (s.rests (close_label_rests
          (the_unit c.seat.inside.seat.me.0).part c.args.slot may)),
    )
