use Rattle.std.proofs.Common.{◌≡◌, ℕ, [], ◌∷◌, ◌++◌, ap, ◌∙◌, arith}
use Rattle.std.specs.List.{flat_map, range_with_len}
use Rattle.mont_base.specs.Image.{clock_of}
use Rattle.mont_base.specs.Layout.{total_of}
use Rattle.old_image.specs.OldSlots.{wide_slot, widened}
use Rattle.old_image.proofs.FlatSlots.{flat_more}
use Rattle.image_info.proofs.wide_words.widen.Goals as goal

pub loop-slot-preserved : goal.loop-slot-preserved
loop-slot-preserved c =
    let words = c.args.image.now.words in
    let read = c.wide_slot.ensures ∙ ap (λ ws. wide_slot ws c.loop-slot.slot) c.as_slice-words.ensures in
    c.in_ok-extend_from_slice.ensures.items ∙ (λ i. c.loop-slot.invariant i ++ read i)
    ∙ flat_more (wide_slot words) (clock_of words ∷ []) 0 c.loop-slot.slot c.loop-slot.slot (omega arith)

pub returns : goal.returns
unfolding widened
returns c =
    let words = c.args.image.now.words in
    let all : c.loop-slot.slot ≡ total_of c.args.image.now.layout =
    omega (arith, c.loop-slot.auto.slot-end, c.total-slot-end.ensures.value, c.loop-slot-test.false) in
    c.loop-slot.invariant ∙ ap (λ (n : ℕ). clock_of words ∷ flat_map (wide_slot words) (range_with_len 0 n)) all
