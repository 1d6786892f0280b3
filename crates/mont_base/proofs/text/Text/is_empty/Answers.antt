use Rattle.std.proofs.Common.{sym, ap, ◌∙◌, length}
use Rattle.std.specs.Prelude.{nat_eq}
use Rattle.mont_base.proofs.Texts.{length_of_view}
use Rattle.mont_base.proofs.text.Text.is_empty.Goals as goal

pub returns : goal.returns
returns c = ap (λ n. nat_eq n 0) (sym (length_of_view c.self.inside c.self.invariant) ∙ ap length c.self.view_is)
