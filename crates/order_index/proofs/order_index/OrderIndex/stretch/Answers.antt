use Rattle.std.proofs.Common.{refl}
use Rattle.order_index.proofs.Kept.{entries_of}
use Rattle.order_index.proofs.Ranged.{stretched}
use Rattle.order_index.proofs.order_index.OrderIndex.stretch.Goals as goal

pub returns : goal.returns
returns c =
    let is = entries_of _ _ _ c.self.invariant c.self.view_is in
    let below = c.count_below-first.ensures.value c.self.invariant.sorted in
    let up = c.count_up_to-behind.ensures.value c.self.invariant.sorted in
    stretched _ _ is c.args.from c.args.to _ _ below up c.count_up_to-behind.ensures.bound _ refl c.max.ensures
