use Rattle.std.specs.Prelude.{Ok, Err}
use Rattle.std.specs.declared.result.Result.{Result}
use Rattle.mont_base.specs.declared.operation.Receipt.{Receipt}
use Rattle.mont_base.specs.declared.refusal.CallRefusal.{CallRefusal}
use Rattle.heap_pass.proofs.KeptReceipts.{some_given, last_holds}
use Rattle.store.specs.StoreCalls.{HasCalled}
use Rattle.store.specs.StoreShown.{StoreShown}
use Rattle.store.proofs.CallsShown.{handed_on}
use Rattle.store.proofs.StoreBases.{of_its_base}
use Rattle.store.proofs.store.Store.call_unit.Goals as goal

pub returns-in_err-perform_locked : goal.returns-in_err-perform_locked
returns-in_err-perform_locked g c =
    let why : CallRefusal = c.in_err-perform_locked.field-0.0 in
    handed_on (λ (x : Result Receipt CallRefusal). HasCalled c.args.self.now g.G.Gate.cuts g.G.Gate.endless c.args.pass.now
    c.perform_locked.new.pass c.args.op.now x) c.from_residual.result why c.from_residual.ensures.1
    (of_its_base g.N.HeapName.heap c.args.self.now c.heap-heap.ensures.opened
    (λ (s : StoreShown). HasCalled s g.G.Gate.cuts g.G.Gate.endless c.args.pass.now c.perform_locked.new.pass c.args.op.now (Err why))
    c.in_err-perform_locked.ensures.refused)

pub last_receipt-requires : goal.last_receipt-requires
last_receipt-requires g c = record { some = some_given c.in_ok-perform_locked.ensures.answered c.deref.result.now c.deref.ensures.value }

pub returns : goal.returns
returns g c =
    of_its_base g.N.HeapName.heap c.args.self.now c.heap-heap.ensures.opened
    (λ (s : StoreShown). HasCalled s g.G.Gate.cuts g.G.Gate.endless c.args.pass.now c.perform_locked.new.pass c.args.op.now
    (Ok c.last_receipt.result))
    (last_holds c.in_ok-perform_locked.ensures.answered c.deref.result.now c.deref.ensures.value c.last_receipt.result
    c.last_receipt.ensures)
