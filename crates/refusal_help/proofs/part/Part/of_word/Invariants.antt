use Rattle.std.proofs.Common.{◌≢◌, ℕ, ◌<◌, get_or}
use Rattle.refusal_help.specs.declared.part.Part.{Part}
use Rattle.refusal_help.specs.Table.{part_word}
use Rattle.refusal_help.proofs.part.Part.of_word.Given as goal

-- the word is none of the names so far
abbrev pub invariant-loop-name : goal.invariant-loop-name
invariant-loop-name l = (k : ℕ) (d : Part) → k < l.name-index → l.fn.word ≢ part_word (get_or l.name-items k d)
