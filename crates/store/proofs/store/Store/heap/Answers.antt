use Rattle.store.proofs.StoreBases.{opened_on}
use Rattle.store.proofs.store.Store.heap.Goals as goal

pub returns-clause-opened : goal.returns-clause-opened
returns-clause-opened g c =
    let s = c.self.inside in
    opened_on g.N.HeapName.heap s.heap s.base_clock.part s.base c.args.self.now c.self.invariant c.self.view_is
