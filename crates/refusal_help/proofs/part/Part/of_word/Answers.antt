use Rattle.std.proofs.Common.{◌≡◌, ℕ, ◌<◌, get_or, sym, ap, ◌∙◌, refl, arith, lit<}
use Rattle.refusal_help.specs.declared.part.Part.{Part}
use Rattle.refusal_help.specs.declared.part.Part.TheVariants as names
use Rattle.refusal_help.specs.declared.part.TheConstants.{PARTS}
use Rattle.refusal_help.specs.Table.{part_word}
use Rattle.refusal_help.proofs.part.Part.of_word.Goals as goal

-- each name stands at its place
named : (n : Part) → (k : ℕ) × (k < 2) × (get_or PARTS k names.Unit ≡ n)
named names.Unit = (0, lit< tt, refl)
named names.Caller = (1, lit< tt, refl)

pub returns : goal.returns
returns c = λ n is.
    let at = named n in
    c.loop-name.invariant at.0 names.Unit (omega (arith, at.1)) (is ∙ ap part_word (sym at.2))
