use Rattle.std.proofs.Common.{◌≡◌, ◌<◌, length, ap, subst, sym, ◌∙◌, true}
use Rattle.mont_base.specs.declared.constants.TheConstants.{FIELDS}
use Rattle.core_steps.specs.Flushing.{can_load_word}
use Rattle.heap_rule.specs.Views.{Seated, joined, field_at_hand}
use Rattle.heap_rule.proofs.SeatedPlays.{loads_word_as}
use Rattle.heap.specs.HeapShown.{AdvShown}
use Rattle.heap.proofs.SeatTables.{advancer_table, word_inside, hand_inside, hand_field, hand_word}
use Rattle.heap.proofs.heap.Heap.load_word.Goals as goal

pub current-place-requires : goal.current-place-requires
current-place-requires g c = record {
  slot = c.requires.inside;
  field = hand_field _ c.seat.inside.part c.field.ensures
      c.seat.invariant.field;
}

pub load-found-requires : goal.load-found-requires
load-found-requires g c =
    let s = c.seat.invariant in
    let place = c.current-place.ensures in (
      advancer_table _ _ _ _ c.seat.view_is c.requires.heap c.self.view_is,
      word_inside _ _ _ c.self.view_is place.inside,
      loads_word_as _ _ _ _ _ _ (ap (λ (x : Seated). x.0) s.whole)
          (place.place ∙ hand_word c.args.slot _ c.seat.inside.part _ _ c.seat.view_is c.requires.slot c.field.ensures s.part_is)
          (subst (λ (x : AdvShown). can_load_word (length (joined x.known.lists)) x.known.part ≡ true) (sym c.seat.view_is) c.requires.may)
          (hand_inside c.args.slot _ _ _ _ c.seat.view_is c.self.view_is c.requires.slot c.requires.inside)
          (subst (λ p. field_at_hand p < FIELDS) s.part_is s.field),
    )
