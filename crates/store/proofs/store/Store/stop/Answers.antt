use Rattle.std.proofs.Common.{List, map, sym, subst}
use Rattle.plain.specs.States.{states_of}
use Rattle.heap.specs.HeapShown.{HeapShown, CallerShown}
use Rattle.heap.specs.Stops.{AreAllSeats}
use Rattle.store_stop.specs.Headline.{IsBaseOf}
use Rattle.store.proofs.KeptBases.{base_kept, with_its_base, as_it_says}
use Rattle.store.proofs.store.Store.stop.Goals as goal

pub stop_store-requires-clause-seats : goal.stop_store-requires-clause-seats
stop_store-requires-clause-seats g c =
    let u = c.unlock-heap.ensures.unlocked in
    let all = c.requires.passes in
    let callers : List CallerShown = map (λ p. p.ticket) c.args.passes.items in
    subst (λ (heap : HeapShown). AreAllSeats heap c.unlock-heap.result.units.items c.unlock-heap.result.advancer callers) (sym u.named)
    (record { unit_count = u.many; each_unit = u.each; the_advancer = u.advancer; caller_count = all.many; each_caller = all.each })

pub stop_store-requires-clause-base : goal.stop_store-requires-clause-base
stop_store-requires-clause-base g c =
    let u = c.unlock-heap in
    subst (λ (heap : HeapShown). IsBaseOf heap.opening u.result.base_clock (states_of u.result.base)) (sym u.ensures.unlocked.named)
    u.ensures.unlocked.base

pub returns-clause-base : goal.returns-clause-base
returns-clause-base g c =
    let u = c.unlock-heap in
    let callers : List CallerShown = map (λ p. p.ticket) c.args.passes.items in
    with_its_base g.N.HeapName.heap u.result.heap u.ensures.unlocked.named u.result.base_clock u.result.base callers c.stop_store.result
    c.stop_store.ensures.stopped u.ensures.unlocked.base

pub returns-clause-stopped : goal.returns-clause-stopped
returns-clause-stopped g c =
    let u = c.unlock-heap in
    let callers : List CallerShown = map (λ p. p.ticket) c.args.passes.items in
    as_it_says g.N.HeapName.heap u.result.heap u.ensures.unlocked.named u.result.base_clock u.result.base callers c.stop_store.result
    c.stop_store.ensures.stopped

pub returns-clause-opened : goal.returns-clause-opened
returns-clause-opened g c =
    let u = c.unlock-heap in
    let callers : List CallerShown = map (λ p. p.ticket) c.args.passes.items in
    base_kept u.result.heap u.result.base_clock u.result.base callers c.args.self.base u.ensures.base c.stop_store.result
    c.stop_store.ensures.stopped
