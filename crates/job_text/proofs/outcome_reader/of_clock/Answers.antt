use Rattle.job_text.proofs.OutcomeWords.{none_of_clock}
use Rattle.job_text.proofs.outcome_reader.of_clock.Goals as goal

pub returns-in_err-need : goal.returns-in_err-need
returns-in_err-need c =
    rw c.from_residual.ensures (none_of_clock _ c.in_default.ensures c.in_default-named.ensures c.in_err-need.ensures)
