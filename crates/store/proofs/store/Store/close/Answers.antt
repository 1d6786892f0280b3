use Rattle.std.proofs.Common.{List, map, sym, subst}
use Rattle.heap.specs.HeapShown.{HeapShown, CallerShown}
use Rattle.heap.specs.Stops.{AreAllSeats}
use Rattle.store.proofs.store.Store.close.Goals as goal

pub close_store-requires-clause-seats : goal.close_store-requires-clause-seats
close_store-requires-clause-seats g c =
    let u = c.unlock-heap.ensures.unlocked in
    let all = c.requires.passes in
    let callers : List CallerShown = map (λ p. p.ticket) c.args.passes.items in
    subst (λ (heap : HeapShown). AreAllSeats heap c.unlock-heap.result.units.items c.unlock-heap.result.advancer callers) (sym u.named)
    (record { unit_count = u.many; each_unit = u.each; the_advancer = u.advancer; caller_count = all.many; each_caller = all.each })
