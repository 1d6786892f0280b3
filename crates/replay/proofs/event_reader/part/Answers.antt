use Rattle.replay.proofs.StepSpelling.{no_unit, no_caller}
use Rattle.replay.proofs.event_reader.part.Goals as goal

pub returns-in_err-unit : goal.returns-in_err-unit
returns-in_err-unit c = rw c.from_residual.ensures (no_unit _ _ c.in-Some.ensures c.in_err-unit.ensures)

pub returns-in_err-caller : goal.returns-in_err-caller
returns-in_err-caller c = rw c.from_residual-in_err-caller.ensures (no_caller _ c.in_default.ensures c.in_err-caller.ensures)
