use Rattle.std.proofs.Common.{sym}
use Rattle.order_index.proofs.Kept.{entries_of, waits_for, set_kept, put_kept, put_new}
use Rattle.order_index.proofs.Listed.{made_of, got_held, got_none, set_held, put_in}
use Rattle.order_index.proofs.order_index.OrderIndexIndex.put.Goals as goal

-- ---- a key that is there
pub invariant_of-self : goal.invariant_of-self
invariant_of-self c =
    let is = entries_of _ _ _ c.self.invariant c.self.view_is in
    rw c.replace.ensures.set (set_kept _ _ c.self.invariant _ is c.args.key _ c.in-Ok.ensures c.args.place)

pub returns-in-Ok-clause-earlier : goal.returns-in-Ok-clause-earlier
returns-in-Ok-clause-earlier c =
    let is = entries_of _ _ _ c.self.invariant c.self.view_is in
    got_held _ _ is c.args.key _ c.in-Ok.ensures c.replace.result c.replace.ensures.earlier

pub returns-in-Ok-clause-set : goal.returns-in-Ok-clause-set
returns-in-Ok-clause-set c =
    let is = entries_of _ _ _ c.self.invariant c.self.view_is in
    rw c.replace.ensures.set (made_of _ _ (set_held _ _ is c.args.key _ c.in-Ok.ensures c.args.place))

-- ---- a key that comes in
pub replace-requires-in-Err : goal.replace-requires-in-Err
replace-requires-in-Err c =
    let room = waits_for _ _ _ c.self.invariant c.self.view_is c.args.key _ c.in-Err.ensures c.requires in
    record { within = rw c.replace-node.ensures.value room }

pub insert-requires-clause-within : goal.insert-requires-clause-within
insert-requires-clause-within c = c.in-Err.ensures.within

pub invariant_of-self-in-Err : goal.invariant_of-self-in-Err
invariant_of-self-in-Err c =
    let is = entries_of _ _ _ c.self.invariant c.self.view_is in
    let room = waits_for _ _ _ c.self.invariant c.self.view_is c.args.key _ c.in-Err.ensures c.requires in
    let node = rw c.replace-node.ensures.value at c.replace-in-Err.ensures.set in
    let new = put_new _ _ _ _ _ (c.args.key, c.args.place) c.self.invariant room node c.insert.ensures in
    let kept = put_kept _ _ c.self.invariant _ is c.args.key _ c.in-Err.ensures room c.args.place in
    rw (new, c.replace-node.ensures.after, c.new.ensures) kept

pub returns-in-Err-clause-earlier : goal.returns-in-Err-clause-earlier
returns-in-Err-clause-earlier c = sym (got_none _ _ (entries_of _ _ _ c.self.invariant c.self.view_is) c.args.key _ c.in-Err.ensures)

pub returns-in-Err-clause-set : goal.returns-in-Err-clause-set
returns-in-Err-clause-set c =
    let is = entries_of _ _ _ c.self.invariant c.self.view_is in
    let room = waits_for _ _ _ c.self.invariant c.self.view_is c.args.key _ c.in-Err.ensures c.requires in
    let node = rw c.replace-node.ensures.value at c.replace-in-Err.ensures.set in
    let new = put_new _ _ _ _ _ (c.args.key, c.args.place) c.self.invariant room node c.insert.ensures in
    rw new (made_of _ _ (put_in _ _ is c.args.key _ c.in-Err.ensures c.args.place))
