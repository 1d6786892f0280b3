use Rattle.std.proofs.Common.{subst}
use Rattle.std.specs.Prelude.{Ok, Err}
use Rattle.std.specs.declared.result.Result.{Result}
use Rattle.mont_base.specs.declared.operation.Receipt.{Receipt}
use Rattle.mont_base.specs.declared.refusal.CallRefusal.{CallRefusal}
use Rattle.heap.specs.HeapShown.{HeapShown}
use Rattle.heap_pass.proofs.KeptReceipts.{some_given, last_holds}
use Rattle.store.specs.StoreShown.{StoreShown, OfAnyBase}
use Rattle.store.specs.StoreCalls.{HasCalled, HandsRun}
use Rattle.store.proofs.CallsShown.{handed_on}
use Rattle.store.proofs.range_calls.range_at.Goals as goal

pub returns-in_err-range-clause-called : goal.returns-in_err-range-clause-called
returns-in_err-range-clause-called g c =
    let why : CallRefusal = c.in_err-range.field-0.0 in
    handed_on (λ (x : Result Receipt CallRefusal). OfAnyBase g.N.HeapName.heap (λ (s : StoreShown). HasCalled s g.G.Gate.cuts
    g.G.Gate.endless
    c.args.pass.now c.range.new.pass c.args.op.now x)) c.from_residual.result why c.from_residual.ensures.1
    (subst (λ (h : HeapShown). OfAnyBase h (λ (s : StoreShown). HasCalled s g.G.Gate.cuts g.G.Gate.endless c.args.pass.now c.range.new.pass
    c.args.op.now (Err why)))
    c.requires.heap c.in_err-range.ensures.refused)

pub last_receipt-requires : goal.last_receipt-requires
last_receipt-requires g c = record { some = some_given c.in_ok-range.ensures.answered c.deref.result.now c.deref.ensures.value }

pub returns-clause-called : goal.returns-clause-called
returns-clause-called g c =
    let told =
    last_holds c.in_ok-range.ensures.answered c.deref.result.now c.deref.ensures.value c.last_receipt.result c.last_receipt.ensures in
    subst (λ (h : HeapShown). OfAnyBase h (λ (s : StoreShown). HasCalled s g.G.Gate.cuts g.G.Gate.endless c.args.pass.now c.range.new.pass
    c.args.op.now (Ok c.last_receipt.result))) c.requires.heap (λ base recovered. (told base recovered).0)

pub returns-clause-pairs : goal.returns-clause-pairs
returns-clause-pairs g c =
    let told =
    last_holds c.in_ok-range.ensures.answered c.deref.result.now c.deref.ensures.value c.last_receipt.result c.last_receipt.ensures in
    subst (λ (h : HeapShown). OfAnyBase h (λ (s : StoreShown). HandsRun s c.range.new.pass.ticket c.last_receipt.result c.range.new.pairs))
    c.requires.heap (λ base recovered. (told base recovered).1)
