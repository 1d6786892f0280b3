use Rattle.std.proofs.Common.{◌≤◌, ◌∙◌, arith}
use Rattle.order_index.proofs.Kept.{entries_of}
use Rattle.order_index.proofs.Listed.{copied}
use Rattle.order_index.proofs.Ranged.{floor_none, floor_last}
use Rattle.order_index.proofs.order_index.OrderIndex.floor.Goals as goal

pub returns-then-behind-eq0 : goal.returns-then-behind-eq0
returns-then-behind-eq0 c =
    let is = entries_of _ _ _ c.self.invariant c.self.view_is in
    let counted = c.count_up_to-behind.ensures.value c.self.invariant.sorted in
    floor_none _ _ is c.args.key _ counted c.if-behind-eq0.true

pub returns : goal.returns
returns c =
    let is = entries_of _ _ _ c.self.invariant c.self.view_is in
    let counted = c.count_up_to-behind.ensures.value c.self.invariant.sorted in
    let some : 1 ≤ c.count_up_to-behind.result = omega (arith, c.if-behind-eq0.false) in
    c.copied.ensures ∙ copied _ _ c.get.ensures ∙ floor_last _ _ is c.args.key _ counted c.count_up_to-behind.ensures.bound some
