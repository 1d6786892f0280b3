use Rattle.std.proofs.Common.{◌≡◌, ◌++◌, map}
use Rattle.std.specs.String.{string_bytes}
use Rattle.job_text.specs.Lines.{text_of}
use Rattle.job_text.specs.Spelling.{pair_words}
use Rattle.job_text.proofs.contents_writer.write_pairs.Given as goal

-- what is written so far and what is still to come are the whole
abbrev pub invariant-loop-key : goal.invariant-loop-key
invariant-loop-key l =
    string_bytes l.text ++ text_of (map pair_words l.key-iterator) ≡ string_bytes l.fn.text ++ text_of (map pair_words l.fn.pairs)
