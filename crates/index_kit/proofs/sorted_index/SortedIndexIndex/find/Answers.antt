use Rattle.std.proofs.Common.{ℕ, Some, sym, ap, ◌∙◌}
use Rattle.mont_base.specs.State.{Key}
use Rattle.index_kit.proofs.SortedEntries.{kept, get_at, get_gap}
use Rattle.index_kit.proofs.sorted_index.SortedIndexIndex.find.Goals as goal

pub returns-in-Ok : goal.returns-in-Ok
returns-in-Ok c =
    let here = rw c.deref.ensures.value at c.in-Ok.ensures in
    let found = get_at _ _ (kept _ _ _ c.self.invariant c.self.view_is) c.args.key c.in-Ok.at here c.index.result.now in
    ap (λ (e : Key × ℕ). Some e.1) c.index.ensures ∙ sym found

pub returns-in-Err : goal.returns-in-Err
returns-in-Err c =
    let gap = rw c.deref.ensures.value at c.in-Err.ensures in
    sym (get_gap _ _ (kept _ _ _ c.self.invariant c.self.view_is) c.args.key _ gap)
