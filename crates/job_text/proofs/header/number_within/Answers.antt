use Rattle.std.proofs.Common.{◌≡◌, arith, sym, ◌∙◌}
use Rattle.std.proofs.lemmas.Fmt.{decimal_injective}
use Rattle.job_text.proofs.header.number_within.Goals as goal
use Rattle.job_text.proofs.header.number_within.Goals.{else-least-number-via-then-least-number+else-number-most, else-least-number-via-else-least-number}

pub returns-else-least-number : goal.returns-else-least-number
returns-else-least-number c = λ n low high is.
    let same : c.in_ok-number.number ≡ n = decimal_injective c.in_ok-number.number n c.in_ok-number.ensures.0 (omega arith)
    (sym c.in_ok-number.ensures.1 ∙ is) in
    elim c.else-least-number.branch [
      | else-least-number-via-then-least-number+else-number-most w ↦ omega arith
      | else-least-number-via-else-least-number w ↦ omega arith
    ]
