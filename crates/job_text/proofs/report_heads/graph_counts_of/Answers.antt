use Rattle.std.proofs.Common.{[], ◌∷◌, refl}
use Rattle.job_text.proofs.Counted.{three_numbers, first_number}
use Rattle.job_text.proofs.report_heads.graph_counts_of.Goals as goal

pub returns-in_err-own : goal.returns-in_err-own
returns-in_err-own c =
    rw c.from_residual.ensures
    (λ p small is. c.in_err-own.ensures (c.args.unit ∷ p.0 ∷ p.1 ∷ []) refl
    (three_numbers c.args.unit p.0 p.1 c.ranges.unit.fits small.0 small.1) is)

pub returns-else-own-unit : goal.returns-else-own-unit
returns-else-own-unit c = λ p small is.
    c.if-own-unit.false (first_number c.in_ok-own.field-0 _ _ _ _ c.in_ok-own.ensures.1 c.in_ok-own.ensures.0 is c.ranges.unit.fits)
