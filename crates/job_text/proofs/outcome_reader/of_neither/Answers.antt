use Rattle.std.proofs.Common.{sym, ◌∙◌}
use Rattle.job_text.proofs.OutcomeWords.{none_of_neither, at_none}
use Rattle.job_text.proofs.outcome_reader.of_neither.Goals as goal

pub returns-in_err-behind : goal.returns-in_err-behind
returns-in_err-behind c =
    rw c.from_residual.ensures
    (none_of_neither _ (at_none c.named.result _ _ (sym c.is_some.ensures ∙ c.if-is_some.false) c.named.ensures)
    (at_none c.named-2.result _ _ (sym c.is_some-2.ensures ∙ c.if-is_some-2.false) c.named-2.ensures)
    (λ w e. c.in_err-behind.ensures _ e))
