use Rattle.std.proofs.Common.{◌≡◌, ◌+◌, ◌-◌, suc, length, append_assoc, arith}
use Rattle.counted_tree.proofs.Parts.{take_past, drop_past}
use Rattle.counted_tree.proofs.tree.Tree.+with.Goals as goal

pub returns-else-at-before : goal.returns-else-at-before
returns-else-at-before g t c =
    let l = c.in-Some.left in
    let x = c.in-Some.branch.value.item in
    let r = c.in-Some.right in
    let n = c.args.at - length l - 1 in
    let e : c.args.at ≡ length l + suc n = omega (arith, c.if-at-before.false) in
    grind (arith, append_assoc, take_past x l r c.args.at n e, drop_past x l r c.args.at n e)
