use Rattle.std.proofs.Common.{[], ◌∷◌, refl}
use Rattle.job_text.proofs.Counted.{two_numbers, first_number}
use Rattle.job_text.proofs.report_heads.count_of.Goals as goal

pub returns-in_err-own : goal.returns-in_err-own
returns-in_err-own c =
    rw c.from_residual.ensures (λ n small is. c.in_err-own.ensures (c.args.place ∷ n ∷ []) refl
    (two_numbers c.args.place n c.ranges.place.fits small) is)

pub returns-else-own-place : goal.returns-else-own-place
returns-else-own-place c = λ n small is.
    c.if-own-place.false (first_number c.in_ok-own.field-0 _ _ _ _ c.in_ok-own.ensures.1 c.in_ok-own.ensures.0 is c.ranges.place.fits)
