use Rattle.std.proofs.Common.{[], ◌∷◌, refl}
use Rattle.job_text.proofs.Counted.{one_number}
use Rattle.job_text.proofs.row_reader.item_of.Goals as goal

pub returns-in_err-item : goal.returns-in_err-item
returns-in_err-item c = rw c.from_residual.ensures (λ n small is. c.in_err-item.ensures (n ∷ []) refl (one_number n small) is)
