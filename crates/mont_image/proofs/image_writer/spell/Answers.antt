use Rattle.std.proofs.Common.{arith, refl, ◌∙◌}
use Rattle.mont_image.proofs.Spelled.{bytes_of_none, spelled_more}
use Rattle.mont_image.proofs.image_writer.spell.Goals as goal

pub loop-at-init : goal.loop-at-init
loop-at-init c = bytes_of_none

pub loop-at-preserved : goal.loop-at-preserved
loop-at-preserved c =
    spelled_more c.loop-at.buffer c.args.words.now c.copy_from_slice.new.self c.loop-at.at _ _ (omega arith) refl
    (c.copy_from_slice.ensures.after ∙ c.to_le_bytes.ensures) (omega arith) c.loop-at.invariant
