use Rattle.std.proofs.Common.{◌∙◌}
use Rattle.std.specs.Prelude.{nat_eq}
use Rattle.std.specs.Cmp.Lexicographic.{pointwise}
use Rattle.mont_base.proofs.Texts.{same_texts}
use Rattle.mont_base.proofs.text.TextPartialEq.eq.Goals as goal

pub returns : goal.returns
returns c =
    c.eq.ensures ∙ (λ i. pointwise nat_eq (c.words.ensures.value i) (c.words-2.ensures.value i))
    ∙ same_texts c.args.self.now c.args.other.now c.words.ensures.text c.words-2.ensures.text
