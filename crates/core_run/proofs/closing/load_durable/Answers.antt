use Rattle.std.proofs.Common.{List, rules}
use Rattle.std.proofs.lemmas.Result.{err_from_is_err_and}
use Rattle.core_steps.specs.declared.parts.CallerPart.{CallerPart}
use Rattle.core_answer.proofs.RowSteps.{put_back}
use Rattle.core_run.proofs.closing.load_durable.Goals as goal

pub returns-in_err-see_durable-in-Caller-clause-err : goal.returns-in_err-see_durable-in-Caller-clause-err
returns-in_err-see_durable-in-Caller-clause-err c =
    let p = err_from_is_err_and c.from_residual.result c.from_residual.ensures.1 in
    rw p.1 (put_back (λ (l : List CallerPart). record c.args.core.now { callers = l }) c.args.core.now.callers c.in-Caller.caller
    c.item_mut-then-caller-len.result.now c.see_durable.new.part c.item_mut-then-caller-len.ensures.value (search rules))
