use Rattle.job_text.proofs.OutcomeWords.{none_of_unit}
use Rattle.job_text.proofs.outcome_reader.of_unit.Goals as goal

pub returns-in_err-unit : goal.returns-in_err-unit
returns-in_err-unit c =
    rw c.from_residual.ensures
    (none_of_unit _ c.in_default.ensures c.in_default-named.ensures c.in_default-named-2.ensures c.in_err-unit.ensures)
