use Rattle.std.proofs.Common.{sym, subst, refl, ◌∙◌}
use Rattle.plain.specs.Callers.{AreReceiptsOf}
use Rattle.plain.proofs.Each.{below_one_more, below_whole, each_at}
use Rattle.plain.proofs.callers.are_receipts.Goals as goal

pub returns-then-not-are_receipts_of : goal.returns-then-not-are_receipts_of
returns-then-not-are_receipts_of c =
    let Of = AreReceiptsOf c.args.histories.now in
    let here =
    each_at Of c.args.receipts.now c.loop-caller.caller c.index-receipts-caller.result
    c.loop-caller-test.true c.index-receipts-caller.is in
    let told = c.are_receipts_of.ensures.1 in
    (λ t. cc, λ each. sym c.if-not-are_receipts_of.true ∙ told (subst (Of c.loop-caller.caller) (sym c.as_slice.ensures) (here each)))

pub loop-caller-preserved : goal.loop-caller-preserved
loop-caller-preserved c =
    let Of = AreReceiptsOf c.args.histories.now in
    let told = c.are_receipts_of.ensures.0 c.if-not-are_receipts_of.false in
    below_one_more Of c.args.receipts.now c.loop-caller.caller c.index-receipts-caller.result
    c.loop-caller-test.true c.index-receipts-caller.is
    (subst (Of c.loop-caller.caller) c.as_slice.ensures told) c.loop-caller.invariant

pub returns : goal.returns
returns c =
    let Of = AreReceiptsOf c.args.histories.now in
    let whole = below_whole Of c.args.receipts.now c.loop-caller.caller c.loop-caller-test.false c.loop-caller.invariant in
    (λ t. whole, λ each. refl)
