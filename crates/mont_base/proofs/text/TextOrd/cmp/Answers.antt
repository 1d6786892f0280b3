use Rattle.std.proofs.Common.{◌∙◌, sym}
use Rattle.std.specs.Ordering.{ordering_then}
use Rattle.mont_base.specs.Texts.{text_cmp}
use Rattle.mont_base.proofs.Texts.{cmp_behind, cmp_apart}
use Rattle.mont_base.proofs.text.TextOrd.cmp.Goals as goal

pub returns-in-Equal : goal.returns-in-Equal
returns-in-Equal c =
    let two = c.then.ensures ∙ (λ i. ordering_then (c.cmp_words-in-Equal.ensures i) (c.cmp_words-in-Equal-2.ensures i)) in
    c.then-in-Equal.ensures
    ∙ (λ i. ordering_then (two i) (c.cmp.ensures i))
    ∙ cmp_behind c.self.inside c.other.inside c.self.invariant c.other.invariant (sym c.cmp_words.ensures ∙ c.in-Equal.is)
    ∙ (λ i. text_cmp (c.self.view_is i) (c.other.view_is i))

pub returns-in_default : goal.returns-in_default
returns-in_default c =
    c.cmp_words.ensures
    ∙ cmp_apart c.self.inside c.other.inside c.self.invariant c.other.invariant
    (λ same. c.in_default.not-Equal (c.cmp_words.ensures ∙ same))
    ∙ (λ i. text_cmp (c.self.view_is i) (c.other.view_is i))
