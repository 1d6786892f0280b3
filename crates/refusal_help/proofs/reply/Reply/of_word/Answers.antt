use Rattle.std.proofs.Common.{◌≡◌, ℕ, ◌<◌, get_or, sym, ap, ◌∙◌, refl, arith, lit<}
use Rattle.refusal_help.specs.declared.reply.Reply.{Reply}
use Rattle.refusal_help.specs.declared.reply.Reply.TheVariants as names
use Rattle.refusal_help.specs.declared.reply.TheConstants.{REPLIES}
use Rattle.refusal_help.specs.Table.{reply_word}
use Rattle.refusal_help.proofs.reply.Reply.of_word.Goals as goal

-- each name stands at its place
named : (n : Reply) → (k : ℕ) × (k < 6) × (get_or REPLIES k names.Nothing ≡ n)
named names.Nothing = (0, lit< tt, refl)
named names.Was = (1, lit< tt, refl)
named names.Count = (2, lit< tt, refl)
named names.NoEnds = (3, lit< tt, refl)
named names.Key = (4, lit< tt, refl)
named names.Pairs = (5, lit< tt, refl)

pub returns : goal.returns
returns c = λ n is.
    let at = named n in
    c.loop-name.invariant at.0 names.Nothing (omega (arith, at.1)) (is ∙ ap reply_word (sym at.2))
