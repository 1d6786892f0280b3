use Rattle.std.proofs.Common.{◌≡◌, ◌<◌, ap, subst, sym, ◌∙◌, true}
use Rattle.mont_base.specs.declared.constants.TheConstants.{FIELDS}
use Rattle.core_steps.specs.Flushing.{can_persist_word}
use Rattle.heap_rule.specs.TableWords.{durable_place}
use Rattle.heap_rule.specs.Views.{Seated, field_at_hand, word_in_hand}
use Rattle.heap_rule.proofs.SeatedPlays.{persists_word_as}
use Rattle.heap.specs.HeapShown.{AdvShown}
use Rattle.heap.proofs.SeatTables.{advancer_table, word_inside, place_durable, hand_inside, hand_field, hand_word}
use Rattle.heap.proofs.heap.Heap.persist_word.Goals as goal

pub durable-place-requires : goal.durable-place-requires
durable-place-requires g c = record {
  slot = c.requires.inside;
  field = hand_field _ c.seat.inside.part c.field.ensures
      c.seat.invariant.field;
}

pub store-requires : goal.store-requires
store-requires g c =
    let s = c.seat.invariant in
    let place = c.durable-place.ensures in (
      advancer_table _ _ _ _ c.seat.view_is c.requires.heap c.self.view_is,
      word_inside _ _ _ c.self.view_is place.inside,
      persists_word_as _ _ _ _ _ _ _ (ap (λ (x : Seated). x.0) s.whole)
          (place_durable _ _ _ _ c.self.view_is place.place
          ∙ ap (durable_place _) (hand_word c.args.slot _ c.seat.inside.part _ _ c.seat.view_is c.requires.slot c.field.ensures
          s.part_is))
          (c.word-value.ensures ∙ ap word_in_hand s.part_is)
          (subst (λ (x : AdvShown). can_persist_word x.known.part ≡ true) (sym c.seat.view_is) c.requires.may)
          (hand_inside c.args.slot _ _ _ _ c.seat.view_is c.self.view_is c.requires.slot c.requires.inside)
          (subst (λ p. field_at_hand p < FIELDS) s.part_is s.field),
    )
