use Rattle.std.proofs.Common.{sym, subst, refl, ◌∙◌}
use Rattle.std.specs.List.{AllPairs}
use Rattle.std.proofs.lemmas.List.{take_all}
use Rattle.mont_base.specs.Seen.{IsInOrder}
use Rattle.plain.proofs.Order.{ordered_more, ordered_before}
use Rattle.plain.proofs.callers.is_order.Goals as goal

pub returns-then-not-comes_behind : goal.returns-then-not-comes_behind
returns-then-not-comes_behind c =
    let before =
    ordered_before IsInOrder c.args.receipts.now c.loop-at.at c.index-receipts-at.result c.loop-at-test.true c.index-receipts-at.is in
    (λ t. cc, λ pairs. sym c.if-not-comes_behind.true ∙ c.comes_behind.ensures.1 (before pairs))

pub loop-at-preserved : goal.loop-at-preserved
loop-at-preserved c =
    ordered_more IsInOrder c.args.receipts.now c.loop-at.at c.index-receipts-at.result c.loop-at-test.true c.index-receipts-at.is
    c.loop-at.invariant (c.comes_behind.ensures.0 c.if-not-comes_behind.false)

pub returns : goal.returns
returns c =
    (λ t. subst (AllPairs IsInOrder) (take_all c.loop-at.at c.args.receipts.now c.loop-at-test.false) c.loop-at.invariant, λ pairs. refl)
