use Rattle.std.proofs.Common.{◌≡◌, ◌+◌, ◌-◌, ◌<◌, ◌≤◌, ◌^◌, All, length, drop, vec_len}
use Rattle.std.specs.Io.KnownBytes.{Consumes}
use Rattle.mont_base.specs.Image.{clock_of}
use Rattle.mont_image.specs.declared.image_reader.TheConstants.{CHUNK}
use Rattle.mont_image.specs.ImageText.{bytes_of, is_old}
use Rattle.mont_image.specs.StoredImage.{slot_words}
use Rattle.mont_image.proofs.image_reader.read_slots.Given as goal

-- the clock and the words so far, whose bytes the source gave without failing
abbrev pub invariant-loop-chunk : goal.invariant-loop-chunk
invariant-loop-chunk g l = record {
  count : l.count ≡ slot_words (is_old l.header.version) l.layout;
  clock : clock_of l.words.items ≡ l.header.clock;
  in_range : All (λ w. w < 2 ^ 64) l.words.items;
  some : 1 ≤ vec_len l.words;
  few : vec_len l.words ≤ 1 + l.count;
  taken : Consumes (g.S.Source.left l.initial.source) (g.S.Source.left l.source) (bytes_of (drop 1 l.words.items));
  kept : g.S.Source.faults l.source ≡ g.S.Source.faults l.initial.source;
  chunk : length l.chunk ≡ CHUNK;
}

abbrev pub decreases-loop-chunk : goal.decreases-loop-chunk
decreases-loop-chunk g l = 1 + l.count - vec_len l.words
