use Rattle.std.proofs.Common.{◌≢◌, ℕ, ◌<◌, get_or}
use Rattle.refusal_help.specs.declared.event.Event.{Event}
use Rattle.refusal_help.specs.Table.{event_word}
use Rattle.refusal_help.proofs.event.Event.of_word.Given as goal

-- the word is none of the names so far
abbrev pub invariant-loop-name : goal.invariant-loop-name
invariant-loop-name l = (k : ℕ) (d : Event) → k < l.name-index → l.fn.word ≢ event_word (get_or l.name-items k d)
