use Rattle.std.proofs.Common.{sym}
use Rattle.order_index.proofs.Kept.{entries_of}
use Rattle.order_index.proofs.Listed.{got_held, held_there, got_none}
use Rattle.order_index.proofs.order_index.OrderIndexIndex.find.Goals as goal

pub returns-in_ok-get-in-Ok : goal.returns-in_ok-get-in-Ok
returns-in_ok-get-in-Ok c =
    let is = entries_of _ _ _ c.self.invariant c.self.view_is in
    got_held _ _ is c.args.key _ c.in-Ok.ensures c.in_ok-get-in-Ok.field-0.now c.in_ok-get-in-Ok.ensures

pub returns-in_err-get-in-Ok : goal.returns-in_err-get-in-Ok
returns-in_err-get-in-Ok c =
    let is = entries_of _ _ _ c.self.invariant c.self.view_is in
    absurd (held_there _ _ is c.args.key _ c.in-Ok.ensures c.in_err-get-in-Ok.ensures)

pub returns-in-Err : goal.returns-in-Err
returns-in-Err c = sym (got_none _ _ (entries_of _ _ _ c.self.invariant c.self.view_is) c.args.key _ c.in-Err.ensures)
