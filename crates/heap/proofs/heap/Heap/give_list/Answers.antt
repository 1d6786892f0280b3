use Rattle.std.proofs.Common.{ap, sym, refl, arith, ◌∙◌, ◌++◌}
use Rattle.mont_base.specs.SlotLists.{Roomy}
use Rattle.core_steps.specs.Stages.{is_within}
use Rattle.heap_rule.specs.declared.views.UnitKnown.{UnitKnown}
use Rattle.heap_rule.specs.Views.{listed_in, slots_written}
use Rattle.heap_rule.proofs.SeatedPlays.{gives_list_as}
use Rattle.heap.specs.HeapShown.{UnitShown}
use Rattle.heap.proofs.SeatTables.{unit_table, gave_slot, out_slot}
use Rattle.heap.proofs.heap.Heap.give_list.Goals as goal

abbrev whole_list : UnitKnown → Roomy
whole_list h = record { slots = listed_in h ++ slots_written h.part; room = h.room }

pub exchange-requires : goal.exchange-requires
exchange-requires c = (
  unit_table _ _ _ _ c.seat.view_is c.requires.heap c.self.view_is,
  out_slot _ _ _ _ _ _ c.seat.inside.seat.me c.seat.invariant _
      (ap (λ (x : UnitShown). x.known.turn.out) c.seat.view_is ∙ c.requires.out) c.place-home.ensures,
)

pub load-requires : goal.load-requires
load-requires c =
    let s = c.seat.invariant in
    let words = c.self.invariant.words in
    let e = c.exchange.ensures in
    let is = unit_table _ _ _ _ c.seat.view_is c.requires.heap c.self.view_is in (
      e.0 ∙ is,
      omega (arith, words),
      gives_list_as _ _ _ _ _ _ _
          (gave_slot _ _ _ _ _ _ c.seat.inside.seat.me s _ _ c.args.list
          (ap (λ (x : UnitShown). x.known.turn.out) c.seat.view_is ∙ c.requires.out) c.place-home.ensures e.3)
          refl
          (ap (λ (x : UnitShown). is_within x.known.part.stage) c.seat.view_is ∙ c.requires.may)
          (c.requires.list ∙ sym (ap (λ (x : UnitShown). whole_list x.known) c.seat.view_is)),
    )
