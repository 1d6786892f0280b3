use Rattle.std.proofs.Common.{sym, subst, ◌∙◌}
use Rattle.mont_base.specs.TextWords.{bytes_of_text, IsTextInside}
use Rattle.mont_base.proofs.Texts.{view_of_held, held_is_text}
use Rattle.mont_base.proofs.text.of_held.Goals as goal

pub invariant_of-result : goal.invariant_of-result
invariant_of-result c =
    let is = held_is_text c.args.held.now c.args.len c.told-held c.fits-held c.requires.clean c.requires.short in
    subst IsTextInside (λ i. record
    { len = c.args.len; first = sym c.word_in.ensures i; second = sym c.word_in-2.ensures i; third = sym c.word_in-3.ensures i }) is

pub returns : goal.returns
returns c =
    (λ i. bytes_of_text
    (record { len = c.args.len; first = c.word_in.ensures i; second = c.word_in-2.ensures i; third = c.word_in-3.ensures i }))
    ∙ view_of_held c.args.held.now c.args.len c.told-held c.fits-held c.requires.clean
