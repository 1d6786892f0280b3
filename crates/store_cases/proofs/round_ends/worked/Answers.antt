use Rattle.store_cases.proofs.Tickets.{all_of_heap}
use Rattle.store_cases.proofs.round_ends.worked.Goals as goal

pub callers_of-callers-requires-clause-passes : goal.callers_of-callers-requires-clause-passes
callers_of-callers-requires-clause-passes g c = all_of_heap g.N.HeapName.heap _ c.requires
