use Rattle.std.proofs.Common.{◌≡◌, ◌++◌, take, map}
use Rattle.std.specs.Int.{w64, from_le_bytes}
use Rattle.mont_image.proofs.image_reader.push_words.Given as goal

-- the words so far stand after the others
abbrev pub invariant-loop-word : goal.invariant-loop-word
invariant-loop-word l = l.words.items ≡ l.initial.words.items ++ map (from_le_bytes w64) (take l.word-index l.whole)
