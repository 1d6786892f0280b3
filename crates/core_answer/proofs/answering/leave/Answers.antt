use Rattle.std.proofs.Common.{List, rules}
use Rattle.std.proofs.lemmas.Result.{err_from_is_err_and}
use Rattle.core_steps.specs.declared.parts.UnitPart.{UnitPart}
use Rattle.core_steps.specs.declared.parts.CallerPart.{CallerPart}
use Rattle.core_answer.proofs.RowSteps.{put_both_back}
use Rattle.core_answer.proofs.answering.leave.Goals as goal

pub returns-in_err-leave_with-clause-err : goal.returns-in_err-leave_with-clause-err
returns-in_err-leave_with-clause-err c =
    let p = err_from_is_err_and c.from_residual.result c.from_residual.ensures.1 in
    let k = c.args.core.now in
    rw p.1 (put_both_back (λ (l : List UnitPart) (m : List CallerPart). record k { units = l; callers = m }) k.units c.args.unit
    c.item_mut-part.result.now c.leave_with.new.part k.callers c.args.caller c.item_mut-of_caller.result.now c.leave_with.new.caller
    c.item_mut-part.ensures.value (search rules) c.item_mut-of_caller.ensures.value (search rules))
