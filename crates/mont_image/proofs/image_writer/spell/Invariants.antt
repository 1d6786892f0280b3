use Rattle.std.proofs.Common.{◌≡◌, ◌*◌, take}
use Rattle.mont_image.specs.declared.image_text.TheConstants.{WORD}
use Rattle.mont_image.specs.ImageText.{bytes_of}
use Rattle.mont_image.proofs.image_writer.spell.Given as goal

-- the bytes of the words so far stand in the front
abbrev pub invariant-loop-at : goal.invariant-loop-at
invariant-loop-at l = take (WORD * l.at) l.buffer ≡ bytes_of (take l.at l.words)
