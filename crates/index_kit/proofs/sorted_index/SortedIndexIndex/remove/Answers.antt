use Rattle.std.proofs.Common.{ℕ, Some, sym, ap, ◌∙◌}
use Rattle.mont_base.specs.State.{Key}
use Rattle.index_kit.proofs.SortedEntries.{kept, get_at, get_gap, remove_at, remove_gap}
use Rattle.index_kit.proofs.sorted_index.SortedIndexIndex.remove.Goals as goal

pub invariant_of-self : goal.invariant_of-self
invariant_of-self c =
    let here = rw c.deref.ensures.value at c.in-Ok.ensures in
    rw c.remove.ensures.items (remove_at _ _ (kept _ _ _ c.self.invariant c.self.view_is) c.args.key _ here).sorted

pub returns-in-Ok-clause-earlier : goal.returns-in-Ok-clause-earlier
returns-in-Ok-clause-earlier c =
    let here = rw c.deref.ensures.value at c.in-Ok.ensures in
    let found = get_at _ _ (kept _ _ _ c.self.invariant c.self.view_is) c.args.key _ here c.remove.result in
    ap (λ (e : Key × ℕ). Some e.1) c.remove.ensures.value ∙ sym found

pub returns-in-Ok-clause-taken : goal.returns-in-Ok-clause-taken
returns-in-Ok-clause-taken c =
    let here = rw c.deref.ensures.value at c.in-Ok.ensures in
    rw c.remove.ensures.items (remove_at _ _ (kept _ _ _ c.self.invariant c.self.view_is) c.args.key _ here).is

pub returns-in-Err-clause-earlier : goal.returns-in-Err-clause-earlier
returns-in-Err-clause-earlier c =
    let gap = rw c.deref.ensures.value at c.in-Err.ensures in
    sym (get_gap _ _ (kept _ _ _ c.self.invariant c.self.view_is) c.args.key _ gap)

pub returns-in-Err-clause-taken : goal.returns-in-Err-clause-taken
returns-in-Err-clause-taken c =
    let gap = rw c.deref.ensures.value at c.in-Err.ensures in
    sym (remove_gap _ _ (kept _ _ _ c.self.invariant c.self.view_is) c.args.key _ gap)
