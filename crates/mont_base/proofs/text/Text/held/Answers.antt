use Rattle.std.proofs.Common.{ap, sym, take, length, ◌∙◌}
use Rattle.mont_base.specs.TextWords.{bytes_of_text}
use Rattle.mont_base.proofs.Texts.{length_of_view}
use Rattle.mont_base.proofs.text.Text.held.Goals as goal

pub returns : goal.returns
unfolding bytes_of_text
returns c =
    let long = sym (ap length c.self.view_is) ∙ length_of_view c.self.inside c.self.invariant in
    (λ i. take (long i) (c.bytes_in.ensures i)) ∙ c.self.view_is
