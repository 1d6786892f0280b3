use Rattle.std.proofs.Common.{ap, sym, refl, arith, ◌∙◌}
use Rattle.core_steps.specs.Stages.{is_within}
use Rattle.heap_rule.specs.declared.views.UnitTurn.{UnitTurn}
use Rattle.heap_rule.specs.Views.{Seated, slots_written, the_unit}
use Rattle.heap_rule.proofs.SeatedPlays.{takes_list_as, gives_list_as}
use Rattle.heap.specs.HeapShown.{UnitShown}
use Rattle.heap.proofs.PushedSlots.{found_list, list_due, room_due}
use Rattle.heap.proofs.SeatTables.{unit_table, took_slot, pushed_slot}
use Rattle.heap.proofs.heap.Heap.list_written.Goals as goal

pub load-requires : goal.load-requires
load-requires g c =
    let s = c.seat.invariant in
    let words = c.self.invariant.words in (
      unit_table _ _ _ _ c.seat.view_is c.requires.heap c.self.view_is,
      omega (arith, words),
      takes_list_as _ _ _ _ _ _ (ap (λ (x : Seated). x.0) s.whole) refl
          (ap (λ (x : UnitShown). is_within x.known.part.stage) c.seat.view_is ∙ c.requires.may)
          (ap (λ (x : UnitShown). x.known.turn.out) c.seat.view_is ∙ ap (λ (t : UnitTurn). t.out) c.requires.home),
    )

pub slot_mut-requires : goal.slot_mut-requires
slot_mut-requires g c = (
  c.load.ensures.0 ∙ unit_table _ _ _ _ c.seat.view_is c.requires.heap c.self.view_is,
  took_slot _ _ _ _ _ _ c.seat.inside.seat.me c.seat.invariant _ _ c.place-place.ensures c.load.ensures.2.0,
)

pub push_slots-requires : goal.push_slots-requires
push_slots-requires g c =
    let home = ap (λ (x : UnitShown). x.known.turn) c.seat.view_is ∙ c.requires.home in
    let same = c.requires.written ∙ sym (ap (λ (x : UnitShown). slots_written x.known.part) c.seat.view_is) in
    let taken =
    found_list _ _ _ _ _ _ _ _ c.slot_mut.ensures.value c.in-Some.is (ap (λ (x : Seated). x.1) c.load.ensures.2.0) in
    room_due g.W.InSlot.in_slot (the_unit c.seat.inside.seat.me.0) c.args.written.now c.in-Some.list home same taken c.load.ensures.2.1

pub load-requires-2 : goal.load-requires-2
load-requires-2 g c =
    let s = c.seat.invariant in
    let words = c.self.invariant.words in
    let home = ap (λ (x : UnitShown). x.known.turn) c.seat.view_is ∙ c.requires.home in
    let same = c.requires.written ∙ sym (ap (λ (x : UnitShown). slots_written x.known.part) c.seat.view_is) in
    let taken =
    found_list _ _ _ _ _ _ _ _ c.slot_mut.ensures.value c.in-Some.is (ap (λ (x : Seated). x.1) c.load.ensures.2.0) in (
      c.load.ensures.0 ∙ unit_table _ _ _ _ c.seat.view_is c.requires.heap c.self.view_is,
      omega (arith, words),
      gives_list_as _ _ _ _ _ _ _
          (pushed_slot _ _ _ _ _ _ c.seat.inside.seat.me s _ _ c.push_slots.new.list home c.place-place.ensures c.load.ensures.2.0)
          refl
          (ap (λ (x : UnitShown). is_within x.known.part.stage) c.seat.view_is ∙ c.requires.may)
          (list_due g.W.InSlot.in_slot (the_unit c.seat.inside.seat.me.0) c.args.written.now c.in-Some.list c.push_slots.new.list
          home same taken c.push_slots.ensures),
    )
