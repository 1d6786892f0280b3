use Rattle.std.specs.Prelude.{IsTrue}
use Rattle.machine_cases.proofs.Permitted.{on_ok, read_permitted}
use Rattle.machine_cases.proofs.permits.permit_read.Goals as goal

pub returns : goal.returns
returns c =
    on_ok c.permitted.result
    (λ (may : IsTrue c.in_ok-can_read.field-0). read_permitted c.args.engine.now c.layout-layout.result c.unit-unit.result
    c.in_ok-part.part c.caller_of-caller.result c.args.op.now c.args.reply.now c.layout-layout.ensures c.unit-unit.ensures c.requires
    c.in_ok-part.ensures c.caller_of-caller.ensures.calls (c.in_ok-can_read.ensures.0 may)) c.permitted.ensures
