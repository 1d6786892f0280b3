use Rattle.std.proofs.Common.{ℕ, List, sym, subst, refl, ◌∙◌}
use Rattle.std.specs.List.{AllPairs}
use Rattle.mont_base.specs.declared.operation.Receipt.{Receipt}
use Rattle.mont_base.specs.Seen.{IsInOrder}
use Rattle.plain.proofs.Each.{below_one_more, below_whole, each_at}
use Rattle.plain.proofs.callers.are_in_order.Goals as goal

abbrev Stand : ℕ → List Receipt → Type 0
Stand _ rs = AllPairs IsInOrder rs

pub returns-then-not-is_order : goal.returns-then-not-is_order
returns-then-not-is_order c =
    let here =
    each_at Stand c.args.receipts.now c.loop-of_caller.of_caller-index c.of_caller-item.result
    c.loop-of_caller-test.true c.of_caller-item.is in
    let told = c.is_order.ensures.1 in
    (λ t. cc, λ each. sym c.if-not-is_order.true ∙ told (subst (AllPairs IsInOrder) (sym c.as_slice.ensures) (here each)))

pub loop-of_caller-preserved : goal.loop-of_caller-preserved
loop-of_caller-preserved c =
    below_one_more Stand c.args.receipts.now c.loop-of_caller.of_caller-index c.of_caller-item.result
    c.loop-of_caller-test.true c.of_caller-item.is
    (subst (AllPairs IsInOrder) c.as_slice.ensures (c.is_order.ensures.0 c.if-not-is_order.false)) c.loop-of_caller.invariant

pub returns : goal.returns
returns c =
    let whole =
    below_whole Stand c.args.receipts.now c.loop-of_caller.of_caller-index c.loop-of_caller-test.false c.loop-of_caller.invariant in
    (λ t. whole, λ each. refl)
