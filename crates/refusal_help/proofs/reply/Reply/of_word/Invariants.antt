use Rattle.std.proofs.Common.{◌≢◌, ℕ, ◌<◌, get_or}
use Rattle.refusal_help.specs.declared.reply.Reply.{Reply}
use Rattle.refusal_help.specs.Table.{reply_word}
use Rattle.refusal_help.proofs.reply.Reply.of_word.Given as goal

-- the word is none of the names so far
abbrev pub invariant-loop-name : goal.invariant-loop-name
invariant-loop-name l = (k : ℕ) (d : Reply) → k < l.name-index → l.fn.word ≢ reply_word (get_or l.name-items k d)
