use Rattle.std.proofs.Common.{◌≡◌, ℕ, ◌<◌, get_or, sym, ap, ◌∙◌, refl, arith, lit<}
use Rattle.refusal_help.specs.declared.form.Form.{Form}
use Rattle.refusal_help.specs.declared.form.Form.TheVariants as names
use Rattle.refusal_help.specs.declared.form.TheConstants.{FORMS}
use Rattle.refusal_help.specs.Table.{form_word}
use Rattle.refusal_help.proofs.form.Form.of_word.Goals as goal

-- each name stands at its place
named : (n : Form) → (k : ℕ) × (k < 10) × (get_or FORMS k names.Run ≡ n)
named names.Run = (0, lit< tt, refl)
named names.Crash = (1, lit< tt, refl)
named names.Resume = (2, lit< tt, refl)
named names.Recover = (3, lit< tt, refl)
named names.Check = (4, lit< tt, refl)
named names.Replay = (5, lit< tt, refl)
named names.Big = (6, lit< tt, refl)
named names.Bank = (7, lit< tt, refl)
named names.Help = (8, lit< tt, refl)
named names.Version = (9, lit< tt, refl)

pub returns : goal.returns
returns c = λ n is.
    let at = named n in
    c.loop-name.invariant at.0 names.Run (omega (arith, at.1)) (is ∙ ap form_word (sym at.2))
