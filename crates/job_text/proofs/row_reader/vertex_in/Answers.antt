use Rattle.std.proofs.Common.{[], ◌∷◌, refl}
use Rattle.job_text.proofs.Counted.{two_numbers}
use Rattle.job_text.proofs.row_reader.vertex_in.Goals as goal

pub returns-in_err-vertex : goal.returns-in_err-vertex
returns-in_err-vertex c =
    rw c.from_residual.ensures (λ v is e. c.in_err-vertex.ensures (v.0 ∷ v.1 ∷ []) refl (two_numbers v.0 v.1 is.0 is.1) e)
