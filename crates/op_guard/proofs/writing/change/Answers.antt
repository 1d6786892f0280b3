use Rattle.std.proofs.Common.{ap, ◌∙◌}
use Rattle.std.proofs.lemmas.Result.{on_err_weaker}
use Rattle.heap_rule.specs.declared.views.UnitTurn.{UnitTurn}
use Rattle.slots.specs.Putting.{WasCutPutting}
use Rattle.op_guard.proofs.Halts.{turn_putting}
use Rattle.op_guard.proofs.writing.change.Goals as goal

pub or_halt-requires-clause-home : goal.or_halt-requires-clause-home
or_halt-requires-clause-home g c =
    let old = c.args.region.now in
    let new = c.put_record-put.new.self in
    let change = c.args.change.now in
    let epoch = c.args.guard.now.epoch in
    on_err_weaker {P = WasCutPutting old new change epoch} c.put_record-put.result (λ cut.
    ap (λ (t : UnitTurn). t.out) (turn_putting old new change epoch cut ∙ c.requires.under_way.home)) c.put_record-put.ensures.cut
