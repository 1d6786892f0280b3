use Rattle.std.proofs.Common.{◌∙◌}
use Rattle.std.specs.Ordering.{nat_cmp}
use Rattle.mont_base.proofs.TextOrder.{cmp_of_words}
use Rattle.mont_base.proofs.text.cmp_words.Goals as goal

pub returns : goal.returns
returns c = c.cmp.ensures ∙ (λ i. nat_cmp (c.swap_bytes.ensures i) (c.swap_bytes-2.ensures i)) ∙ cmp_of_words c.args.a c.args.b
