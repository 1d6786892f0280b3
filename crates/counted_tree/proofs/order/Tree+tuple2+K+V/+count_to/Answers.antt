use Rattle.std.proofs.Common.{◌≡◌, true, false, ◌∷◌, ◌++◌, length, sym, ap, ◌∙◌, subst}
use Rattle.std.specs.FinMap.Entries.{is_sorted}
use Rattle.std.specs.Prelude.{IsTrue}
use Rattle.counted_tree.specs.Order.{count_to, stands_before}
use Rattle.counted_tree.specs.Tree.{items, IsCounted}
use Rattle.counted_tree.proofs.Counts.{counted_past, counted_before}
use Rattle.counted_tree.proofs.order.Tree+tuple2+K+V.+count_to.Goals as goal

pub returns-then-stands_before-clause-value : goal.returns-then-stands_before-clause-value
returns-then-stands_before-clause-value g t c = λ sorted.
    let R = g.K.Ord.cmp in
    let key = c.args.key.now in
    let w = c.args.with_equal in
    let b = c.in-Fork.branch.value in
    let is : c.args.self.now ≡ b.left ++ b.item ∷ b.right = sym c.self.view_is ∙ ap items c.in-Fork.is in
    let stands : stands_before w (R b.item.0 key) ≡ true = cc (c.stands_before.ensures, c.if-stands_before.true, c.deref.ensures) in
    let rest : IsTrue (is_sorted R b.right) → c.count_to.result ≡ count_to R w key b.right =
    rw (sym c.deref-then-stands_before-3.ensures) c.count_to.ensures.value in
    let behind : c.len.result ≡ length b.right = cc (c.len.ensures, c.deref-then-stands_before-2.ensures) in
    let many : c.deref-then-stands_before.result.now.count ≡ b.count = cc (c.deref-then-stands_before.ensures) in
    let counted = many ∙ (subst IsCounted c.in-Fork.is c.self.invariant).0 in
    counted_past g.met.K.Ord.total w key b.left b.item b.right _ is sorted _ c.len.result c.count_to.result stands rest behind counted

pub returns-else-stands_before-clause-value : goal.returns-else-stands_before-clause-value
returns-else-stands_before-clause-value g t c = λ sorted.
    let R = g.K.Ord.cmp in
    let key = c.args.key.now in
    let w = c.args.with_equal in
    let b = c.in-Fork.branch.value in
    let is : c.args.self.now ≡ b.left ++ b.item ∷ b.right = sym c.self.view_is ∙ ap items c.in-Fork.is in
    let stops : stands_before w (R b.item.0 key) ≡ false = cc (c.stands_before.ensures, c.if-stands_before.false, c.deref.ensures) in
    let rest : IsTrue (is_sorted R b.left) → c.count_to-else-stands_before.result ≡ count_to R w key b.left =
    rw (sym c.deref-else-stands_before.ensures) c.count_to-else-stands_before.ensures.value in
    counted_before g.met.K.Ord.total w key b.left b.item b.right _ is sorted _ stops rest
