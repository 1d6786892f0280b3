use Rattle.std.proofs.lemmas.Result.{IfOk-weaker}
use Rattle.text_cases.proofs.Told.{judged_right}
use Rattle.text_cases.proofs.judged.judged_by.Goals as goal

pub returns : goal.returns
returns c = IfOk-weaker c.judged_on.result _ _ (λ b on_it. judged_right c.in_ok-opened.ensures on_it) c.judged_on.ensures
