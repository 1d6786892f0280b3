use Rattle.std.proofs.Common.{List, sym, rules}
use Rattle.std.proofs.lemmas.Result.{err_from_is_err_and}
use Rattle.core_steps.specs.declared.parts.UnitPart.{UnitPart}
use Rattle.core_steps.specs.Storing.{store}
use Rattle.core_answer.proofs.RowSteps.{put_back, on_past}
use Rattle.core_answer.proofs.storing.store.Goals as goal

pub returns-in_err-store_in_part-clause-err : goal.returns-in_err-store_in_part-clause-err
returns-in_err-store_in_part-clause-err c =
    let p = err_from_is_err_and c.from_residual.result c.from_residual.ensures.1 in
    rw p.1 (put_back (λ (l : List UnitPart). record c.args.core.now { units = l }) c.args.core.now.units c.args.unit c.item_mut.result.now
    c.store_in_part.new.part c.item_mut.ensures.value (search rules))

pub returns-else-unit-len-clause-ok : goal.returns-else-unit-len-clause-ok
returns-else-unit-len-clause-ok c =
    sym (on_past c.args.core.now.units c.args.unit c.args.core.now
    (λ p. store c.args.core.now c.args.unit p c.args.slot c.args.field c.args.value) (search rules))
