use Rattle.std.proofs.Common.{◌≢◌, ℕ, ◌<◌, get_or}
use Rattle.replay.specs.declared.step_name.StepName.{StepName}
use Rattle.replay.specs.StepNames.{step_word}
use Rattle.replay.proofs.step_name.StepName.of_word.Given as goal

-- the word is none of the names so far
abbrev pub invariant-loop-name : goal.invariant-loop-name
invariant-loop-name l = (k : ℕ) (d : StepName) → k < l.name-index → l.fn.word ≢ step_word (get_or l.name-items k d)
