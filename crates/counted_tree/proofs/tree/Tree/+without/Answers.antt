use Rattle.std.proofs.Common.{◌≡◌, ◌+◌, ◌-◌, suc, length, append_assoc, arith}
use Rattle.counted_tree.proofs.Parts.{take_past, drop_past, take_here, get_here}
use Rattle.counted_tree.proofs.tree.Tree.+without.Goals as goal

pub returns-then-at-before-2-clause-rest : goal.returns-then-at-before-2-clause-rest
returns-then-at-before-2-clause-rest g t c =
    let l = c.in-Some.left in
    let x = c.in-Some.branch.value.item in
    let r = c.in-Some.right in
    let n = c.args.at - length l - 1 in
    let e : c.args.at ≡ length l + suc n = omega (arith, c.if-at-before-2.true) in
    let f : c.args.at + 1 ≡ length l + suc (n + 1) = omega (arith, c.if-at-before-2.true) in
    grind (arith, append_assoc, take_past x l r c.args.at n e, drop_past x l r (c.args.at + 1) (n + 1) f)

pub returns-clause-item : goal.returns-clause-item
returns-clause-item g t c =
    let e : c.args.at ≡ length c.in-Some.left = omega (arith, c.if-at-before.false, c.if-at-before-2.false) in
    grind (arith, get_here c.in-Some.branch.value.item c.in-Some.left c.in-Some.right c.args.at e)

pub returns-clause-rest : goal.returns-clause-rest
returns-clause-rest g t c =
    let l = c.in-Some.left in
    let x = c.in-Some.branch.value.item in
    let r = c.in-Some.right in
    let e : c.args.at ≡ length l = omega (arith, c.if-at-before.false, c.if-at-before-2.false) in
    let f : c.args.at + 1 ≡ length l + suc 0 = omega (arith, e) in
    grind (arith, append_assoc, take_here x l r c.args.at e, drop_past x l r (c.args.at + 1) 0 f)
