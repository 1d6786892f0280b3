use Rattle.std.specs.Prelude.{IfOk}
use Rattle.store.specs.StoreCalls.{HandsRun, HasCalled}
use Rattle.store.specs.StoreShown.{StoreShown}
use Rattle.store.proofs.StoreBases.{of_its_base}
use Rattle.store.proofs.store.Store.call_range.Goals as goal

pub returns-clause-called : goal.returns-clause-called
returns-clause-called g c =
    of_its_base g.N.HeapName.heap c.args.self.now c.heap-heap.ensures.opened
    (λ (s : StoreShown). HasCalled s g.G.Gate.cuts g.G.Gate.endless c.args.pass.now c.range_locked.new.pass c.args.op.now
    c.range_locked.result) c.range_locked.ensures.called

pub returns-clause-pairs : goal.returns-clause-pairs
returns-clause-pairs g c =
    of_its_base g.N.HeapName.heap c.args.self.now c.heap-heap.ensures.opened
    (λ (s : StoreShown). IfOk c.range_locked.result (λ receipt. HandsRun s c.range_locked.new.pass.ticket receipt
    c.range_locked.new.pairs)) c.range_locked.ensures.pairs
