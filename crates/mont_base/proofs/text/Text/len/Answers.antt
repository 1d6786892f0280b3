use Rattle.std.proofs.Common.{sym, ap, subst, ◌∙◌, length}
use Rattle.mont_base.specs.Texts.{IsText}
use Rattle.mont_base.proofs.Texts.{length_of_view, text_of_view}
use Rattle.mont_base.proofs.text.Text.len.Goals as goal

pub returns-clause-value : goal.returns-clause-value
returns-clause-value c = sym (length_of_view c.self.inside c.self.invariant) ∙ ap length c.self.view_is

pub returns-clause-text : goal.returns-clause-text
returns-clause-text c = subst IsText c.self.view_is (text_of_view c.self.inside c.self.invariant)
