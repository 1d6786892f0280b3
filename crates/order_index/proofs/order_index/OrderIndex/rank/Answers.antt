use Rattle.std.proofs.Common.{sym, ap, ◌∙◌}
use Rattle.mont_base.specs.State.{key_cmp}
use Rattle.counted_tree.specs.Order.{count_below}
use Rattle.order_index.proofs.Kept.{entries_of}
use Rattle.order_index.proofs.order_index.OrderIndex.rank.Goals as goal

pub returns : goal.returns
returns c =
    let is = entries_of _ _ _ c.self.invariant c.self.view_is in
    c.count_below.ensures.value c.self.invariant.sorted ∙ ap (count_below key_cmp c.args.key) (sym is)
