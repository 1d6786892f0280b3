use Rattle.std.proofs.Common.{◌≢◌, ℕ, ◌<◌, get_or}
use Rattle.refusal_help.specs.declared.operation.Operation.{Operation}
use Rattle.refusal_help.specs.Table.{operation_word}
use Rattle.refusal_help.proofs.operation.Operation.of_word.Given as goal

-- the word is none of the names so far
abbrev pub invariant-loop-name : goal.invariant-loop-name
invariant-loop-name l = (k : ℕ) (d : Operation) → k < l.name-index → l.fn.word ≢ operation_word (get_or l.name-items k d)
