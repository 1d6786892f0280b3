use Rattle.std.proofs.Common.{List, rules}
use Rattle.std.proofs.lemmas.Result.{err_from_is_err_and}
use Rattle.core_steps.specs.declared.parts.CallerPart.{CallerPart}
use Rattle.core_answer.proofs.RowSteps.{put_back}
use Rattle.core_run.proofs.hearing.join.Goals as goal

pub returns-in_err-hear-clause-err : goal.returns-in_err-hear-clause-err
returns-in_err-hear-clause-err c =
    let p = err_from_is_err_and c.from_residual.result c.from_residual.ensures.1 in
    rw p.1 (put_back (λ (l : List CallerPart). record c.args.core.now { callers = l }) c.args.core.now.callers c.in-Caller.caller
    c.item_mut.result.now c.hear.new.part c.item_mut.ensures.value (search rules))
