use Rattle.std.proofs.Common.{◌≡◌, ◌++◌, length, map}
use Rattle.job_text.specs.LineWords.{words_of}
use Rattle.job_text.proofs.split_words.words.Given as goal

-- the line has the words so far, and then those of the rest
abbrev pub invariant-loop-word : goal.invariant-loop-word
invariant-loop-word g l = words_of l.fn.line ≡ map (λ word. word.now) l.words.items ++ words_of l.rest

abbrev pub decreases-loop-word : goal.decreases-loop-word
decreases-loop-word g l = length l.rest
