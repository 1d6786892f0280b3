use Rattle.std.proofs.Common.{[], ◌∷◌, refl}
use Rattle.job_text.proofs.Counted.{one_number}
use Rattle.job_text.proofs.report_heads.clock_of.Goals as goal

pub returns-in_err-clock : goal.returns-in_err-clock
returns-in_err-clock c = rw c.from_residual.ensures (λ n small is. c.in_err-clock.ensures (n ∷ []) refl (one_number n small) is)
