use Rattle.std.proofs.Common.{◌≡◌, ◌∷◌}
use Rattle.std.specs.List.{flat_map, range_with_len}
use Rattle.mont_base.specs.Image.{clock_of}
use Rattle.old_image.specs.OldSlots.{wide_slot}
use Rattle.image_info.proofs.wide_words.widen.Given as goal

-- the clock, and the slots so far
abbrev pub invariant-loop-slot : goal.invariant-loop-slot
invariant-loop-slot l =
    l.wide.items ≡ clock_of l.image.words ∷ flat_map (wide_slot l.image.words) (range_with_len 0 l.slot)
