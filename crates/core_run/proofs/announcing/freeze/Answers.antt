use Rattle.std.proofs.Common.{List, ap, rules}
use Rattle.std.proofs.lemmas.Result.{err_from_is_err_and}
use Rattle.core_steps.specs.declared.parts.CallerPart.{CallerPart}
use Rattle.core_answer.proofs.RowSteps.{put_back}
use Rattle.core_run.proofs.announcing.freeze.Goals as goal

pub returns-in_err-push-clause-err : goal.returns-in_err-push-clause-err
returns-in_err-push-clause-err c =
    let p = err_from_is_err_and c.from_residual.result c.from_residual.ensures.1 in
    let was = c.item_mut.result.now in
    rw p.1 (put_back (λ (l : List CallerPart). record c.args.core.now { callers = l }) c.args.core.now.callers c.args.caller was
    (record was { cuts = c.push.new.self }) c.item_mut.ensures.value (ap (λ x. record was { cuts = x }) (search rules)))
