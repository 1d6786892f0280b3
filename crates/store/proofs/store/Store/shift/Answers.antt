use Rattle.store.specs.Shifting.{HasTriedShift}
use Rattle.store.specs.StoreShown.{StoreShown}
use Rattle.store.proofs.StoreBases.{of_its_base}
use Rattle.store.proofs.store.Store.shift.Goals as goal

pub returns : goal.returns
returns g c =
    of_its_base g.N.HeapName.heap c.args.self.now c.heap-heap.ensures.opened
    (λ (s : StoreShown). HasTriedShift s g.G.Gate.cuts g.G.Gate.endless c.args.pass.now c.shift_keys.new.pass c.args.from c.args.to
    c.args.amount c.shift_keys.result) c.shift_keys.ensures
