use Rattle.std.proofs.Common.{◌≢◌, ℕ, ◌<◌, get_or}
use Rattle.refusal_help.specs.declared.form.Form.{Form}
use Rattle.refusal_help.specs.Table.{form_word}
use Rattle.refusal_help.proofs.form.Form.of_word.Given as goal

-- the word is none of the names so far
abbrev pub invariant-loop-name : goal.invariant-loop-name
invariant-loop-name l = (k : ℕ) (d : Form) → k < l.name-index → l.fn.word ≢ form_word (get_or l.name-items k d)
