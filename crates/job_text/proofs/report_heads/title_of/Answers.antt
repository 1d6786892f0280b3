use Rattle.job_text.proofs.Counted.{third_word, behind_two}
use Rattle.job_text.proofs.report_heads.title_of.Goals as goal

pub returns-in_err-words : goal.returns-in_err-words
returns-in_err-words c = rw c.from_residual.ensures (λ p is e. c.in_err-words.ensures _ e)

pub returns-in_err-callers-in-len3 : goal.returns-in_err-callers-in-len3
returns-in_err-callers-in-len3 c =
    rw c.from_residual-in_err-callers-in-len3.ensures
    (λ p is e.
    c.in_err-callers-in-len3.ensures p.1 is.1 is.2
    (third_word c.in_ok-behind.field-0.now _ _ _ _ (behind_two _ _ _ _ _ _ _ _ c.in_ok-words.ensures c.in_ok-behind.ensures e)))
