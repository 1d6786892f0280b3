use Rattle.std.proofs.Common.{◌≡◌, ℕ, ◌+◌, ◌-◌, ◌*◌, ◌≤◌, List, ◌++◌, ap, ◌∙◌, sym, subst, arith}
use Rattle.std.specs.List.{filter_map, range_with_len}
use Rattle.old_image.specs.Migration.{PushesSlot, migrated_slot, object_at}
use Rattle.old_image.proofs.FlatSlots.{flat_more}
use Rattle.old_image.proofs.migration.push_unit.Goals as goal

pub loop-place-preserved : goal.loop-place-preserved
loop-place-preserved c =
    let s = c.args.layout.now in
    let wide = c.args.wide.now in
    let place = c.loop-place.place in
    let first = c.args.unit * s.slots in
    let left = s.slots - (place + 1) in
    let here : c.args.unit * c.slots.result + place ≡ first + place = ap (λ (n : ℕ). c.args.unit * n + place) c.slots.ensures.value in
    let below : place + 1 ≤ s.slots = omega (arith, c.loop-place-test.true, c.slots-place-end.ensures.value) in
    let count : s.slots - place ≡ 1 + left = omega arith in
    let done : PushesSlot s wide (first + place) left c.loop-place.words.items c.push_slot.new.words.items c.in_ok-rest.rest.now =
    subst (λ (slot : ℕ). PushesSlot s wide slot left c.loop-place.words.items c.push_slot.new.words.items c.in_ok-rest.rest.now) here
    (c.in_ok-rest.ensures left (c.loop-place.invariant.objects
    ∙ (λ i. filter_map (object_at s wide) (range_with_len (sym here i) (count i))))) in
    let next : first + place + 1 ≡ first + (place + 1) = omega arith in
    record {
      words = done.words ∙ ap (λ (ws : List ℕ). ws ++ migrated_slot s wide (first + place)) c.loop-place.invariant.words
          ∙ flat_more (migrated_slot s wide) c.args.words.now.items first place (first + place) (omega arith);
      objects = done.objects ∙ ap (λ (n : ℕ). filter_map (object_at s wide) (range_with_len n left)) next;
    }
