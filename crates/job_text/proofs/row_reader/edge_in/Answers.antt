use Rattle.std.proofs.Common.{[], ◌∷◌, refl}
use Rattle.job_text.proofs.Counted.{three_numbers}
use Rattle.job_text.proofs.row_reader.edge_in.Goals as goal

pub returns-in_err-from : goal.returns-in_err-from
returns-in_err-from c =
    rw c.from_residual.ensures
    (λ d is e. c.in_err-from.ensures (d.0.0 ∷ d.0.1 ∷ d.1 ∷ []) refl (three_numbers d.0.0 d.0.1 d.1 is.0 is.1 is.2) e)
