use Rattle.std.proofs.Common.{ap, subst, ◌∙◌}
use Rattle.mont_base.specs.Texts.{IsText, text_words}
use Rattle.mont_base.proofs.Texts.{words_of_view, text_of_view}
use Rattle.mont_base.proofs.text.Text.words.Goals as goal

pub returns-clause-value : goal.returns-clause-value
returns-clause-value c = words_of_view c.self.inside c.self.invariant ∙ ap text_words c.self.view_is

pub returns-clause-text : goal.returns-clause-text
returns-clause-text c = subst IsText c.self.view_is (text_of_view c.self.inside c.self.invariant)
