use Rattle.std.proofs.lemmas.Result.{IfOk-weaker}
use Rattle.text_cases.proofs.Told.{judged_job}
use Rattle.text_cases.proofs.judged.judged.Goals as goal

pub returns : goal.returns
returns c = IfOk-weaker c.judged_by.result _ _ (λ b by_it. judged_job c.in_ok-asked.ensures by_it) c.judged_by.ensures
