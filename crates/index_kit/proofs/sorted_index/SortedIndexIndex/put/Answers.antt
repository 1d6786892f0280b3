use Rattle.std.proofs.Common.{ℕ, Some, sym, ap, ◌∙◌}
use Rattle.mont_base.specs.State.{Key}
use Rattle.index_kit.proofs.SortedEntries.{kept, get_at, get_gap, set_at, insert_gap, no_room}
use Rattle.index_kit.proofs.sorted_index.SortedIndexIndex.put.Goals as goal

pub invariant_of-self : goal.invariant_of-self
invariant_of-self c =
    let here = rw c.deref.ensures.value at c.in-Ok.ensures in
    let entry = c.index_mut.result.now in
    let key_is = ap (λ (e : Key × ℕ). e.0) c.index_mut.ensures.value ∙ here.same entry in
    rw (key_is, c.replace.ensures.after) (set_at _ _ (kept _ _ _ c.self.invariant c.self.view_is) c.args.key _ here c.args.place).sorted

pub returns-in-Ok-clause-earlier : goal.returns-in-Ok-clause-earlier
returns-in-Ok-clause-earlier c =
    let here = rw c.deref.ensures.value at c.in-Ok.ensures in
    let found = get_at _ _ (kept _ _ _ c.self.invariant c.self.view_is) c.args.key _ here c.index_mut.result.now in
    ap Some c.replace.ensures.value ∙ ap (λ (e : Key × ℕ). Some e.1) c.index_mut.ensures.value ∙ sym found

pub returns-in-Ok-clause-set : goal.returns-in-Ok-clause-set
returns-in-Ok-clause-set c =
    let here = rw c.deref.ensures.value at c.in-Ok.ensures in
    let key_is = ap (λ (e : Key × ℕ). e.0) c.index_mut.ensures.value ∙ here.same c.index_mut.result.now in
    rw (key_is, c.replace.ensures.after) (set_at _ _ (kept _ _ _ c.self.invariant c.self.view_is) c.args.key _ here c.args.place).is

pub unreachable-requires : goal.unreachable-requires
unreachable-requires c =
    let gap = rw c.deref.ensures.value at c.in-Err.ensures in
    let none = get_gap _ _ (kept _ _ _ c.self.invariant c.self.view_is) c.args.key _ gap in
    no_room _ _ _ _ c.args.key c.self.view_is c.requires none c.in-Err-insert.ensures.full

pub invariant_of-self-in-Err : goal.invariant_of-self-in-Err
invariant_of-self-in-Err c =
    let gap = rw c.deref.ensures.value at c.in-Err.ensures in
    rw c.in-Ok-insert.ensures.items (insert_gap _ _ (kept _ _ _ c.self.invariant c.self.view_is) c.args.key _ gap c.args.place).sorted

pub returns-in-Ok-insert-clause-earlier : goal.returns-in-Ok-insert-clause-earlier
returns-in-Ok-insert-clause-earlier c =
    let gap = rw c.deref.ensures.value at c.in-Err.ensures in
    sym (get_gap _ _ (kept _ _ _ c.self.invariant c.self.view_is) c.args.key _ gap)

pub returns-in-Ok-insert-clause-set : goal.returns-in-Ok-insert-clause-set
returns-in-Ok-insert-clause-set c =
    let gap = rw c.deref.ensures.value at c.in-Err.ensures in
    rw c.in-Ok-insert.ensures.items (insert_gap _ _ (kept _ _ _ c.self.invariant c.self.view_is) c.args.key _ gap c.args.place).is
