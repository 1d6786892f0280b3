use Rattle.std.proofs.Common.{subst}
use Rattle.std.specs.Prelude.{Ok}
use Rattle.mont_base.specs.declared.operation.Receipt.{Receipt}
use Rattle.heap.specs.HeapShown.{HeapShown}
use Rattle.heap_pass.specs.KeptReceipt.{KeepsReceipt}
use Rattle.store.specs.StoreCalls.{HasCalled}
use Rattle.store.specs.StoreShown.{StoreShown, OfAnyBase}
use Rattle.store.proofs.unit_locks.call_at.Goals as goal

pub returns-in-Ok-clause-answered : goal.returns-in-Ok-clause-answered
returns-in-Ok-clause-answered g c =
    subst (λ (h : HeapShown). KeepsReceipt c.args.pass.now.receipts.items c.perform.new.pass.receipts.items
    (λ (receipt : Receipt). OfAnyBase h (λ (s : StoreShown). HasCalled s g.G.Gate.cuts g.G.Gate.endless c.args.pass.now
    c.perform.new.pass c.args.op.now (Ok receipt))))
    c.requires.heap c.in-Ok.ensures.answered
