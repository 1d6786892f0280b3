use Rattle.std.proofs.Common.{subst, sym}
use Rattle.job_text.specs.Readings.{HasNoRow}
use Rattle.job_text.proofs.ReadLines.{takes_row, no_row, long_row, at_exit}
use Rattle.job_text.proofs.unread.Unread.words.Goals as goal

pub returns-in_err-line : goal.returns-in_err-line
returns-in_err-line c =
    at_exit c.from_residual.result c.in_err-line.field-0.0 _ (HasNoRow c.args.self.now) c.from_residual.ensures.1
    (no_row c.args.self.now _ c.in_err-line.ensures)

pub returns-in-Some : goal.returns-in-Some
returns-in-Some c = takes_row _ _ _ _ c.in_ok-line.ensures c.in-Some.ensures

pub returns-in-None : goal.returns-in-None
returns-in-None c = subst (HasNoRow c.args.self.now) (sym c.refused.ensures) (long_row _ _ _ c.in_ok-line.ensures c.in-None.ensures)
