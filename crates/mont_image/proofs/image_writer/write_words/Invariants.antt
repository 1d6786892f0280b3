use Rattle.std.proofs.Common.{◌≡◌, ◌*◌, List, ℕ, ◌++◌, length}
use Rattle.std.specs.Io.KnownBytes.{Appends}
use Rattle.mont_image.specs.declared.image_text.TheConstants.{WORD}
use Rattle.mont_image.specs.declared.image_writer.TheConstants.{PIECE}
use Rattle.mont_image.specs.ImageText.{bytes_of}
use Rattle.mont_image.proofs.image_writer.write_words.Given as goal

-- the bytes of the words before the rest were taken
abbrev pub invariant-loop-rest : goal.invariant-loop-rest
invariant-loop-rest g l = record {
  sent :
      (front : List ℕ) × (l.words ≡ front ++ l.rest)
      × Appends (g.K.Sink.taken l.initial.sink) (g.K.Sink.taken l.sink) (bytes_of front);
  kept : g.K.Sink.faults l.sink ≡ g.K.Sink.faults l.initial.sink;
  room : length l.buffer ≡ WORD * PIECE;
}

abbrev pub decreases-loop-rest : goal.decreases-loop-rest
decreases-loop-rest g l = length l.rest
