use Rattle.std.proofs.Common.{◌≢◌, ℕ, ◌<◌, get_or}
use Rattle.job_text.specs.declared.op_name.OpName.{OpName}
use Rattle.job_text.specs.Operations.{name_word}
use Rattle.job_text.proofs.op_name.OpName.of_word.Given as goal

-- the word is none of the names so far
abbrev pub invariant-loop-name : goal.invariant-loop-name
invariant-loop-name l = (k : ℕ) (d : OpName) → k < l.name-index → l.fn.word ≢ name_word (get_or l.name-items k d)
