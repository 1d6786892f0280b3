use Rattle.std.proofs.Common.{sym}
use Rattle.order_index.proofs.Kept.{entries_of, taken_kept}
use Rattle.order_index.proofs.Listed.{made_of, got_held, got_none, taken_out, kept_missing}
use Rattle.order_index.proofs.order_index.OrderIndexIndex.remove.Goals as goal

pub invariant_of-self : goal.invariant_of-self
invariant_of-self c =
    let is = entries_of _ _ _ c.self.invariant c.self.view_is in
    rw c.remove.ensures.rest (taken_kept _ _ c.self.invariant _ is c.args.key _ c.in-Ok.ensures)

pub returns-in-Ok-clause-earlier : goal.returns-in-Ok-clause-earlier
returns-in-Ok-clause-earlier c =
    let is = entries_of _ _ _ c.self.invariant c.self.view_is in
    got_held _ _ is c.args.key _ c.in-Ok.ensures c.remove.result c.remove.ensures.item

pub returns-in-Ok-clause-taken : goal.returns-in-Ok-clause-taken
returns-in-Ok-clause-taken c =
    let is = entries_of _ _ _ c.self.invariant c.self.view_is in
    rw c.remove.ensures.rest (made_of _ _ (taken_out _ _ is c.args.key _ c.in-Ok.ensures))

pub returns-in-Err-clause-earlier : goal.returns-in-Err-clause-earlier
returns-in-Err-clause-earlier c = sym (got_none _ _ (entries_of _ _ _ c.self.invariant c.self.view_is) c.args.key _ c.in-Err.ensures)

pub returns-in-Err-clause-taken : goal.returns-in-Err-clause-taken
returns-in-Err-clause-taken c = sym (kept_missing _ _ (entries_of _ _ _ c.self.invariant c.self.view_is) c.args.key _ c.in-Err.ensures)
