use Rattle.job_text.proofs.Splits.{Lacks-from_none, IsSplit-from_some}
use Rattle.job_text.proofs.split.split_once.Goals as goal

pub returns-in_err-at : goal.returns-in_err-at
returns-in_err-at c = rw c.from_residual.ensures (Lacks-from_none c.args.byte c.args.bytes.now (cc c.in_err-at.ensures))

pub returns : goal.returns
returns c = IsSplit-from_some c.args.byte c.args.bytes.now c.in_ok-at.at (cc c.in_ok-at.ensures)
