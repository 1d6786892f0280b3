use Rattle.std.proofs.Common.{◌<◌, ◌^◌, take}
use Rattle.std.specs.Prelude.{All}
use Rattle.job_store.proofs.image_words.show_words.Given as goal

-- the words so far were read
abbrev pub invariant-loop-word : goal.invariant-loop-word
invariant-loop-word l = All (λ w. w < 2 ^ 64) (take l.word-index l.words)
