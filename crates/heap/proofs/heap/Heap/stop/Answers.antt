use Rattle.std.proofs.Common.{ap, sym}
use Rattle.std.proofs.lemmas.Result.{IfOk-weaker}
use Rattle.heap.specs.HeapShown.{HeapShown, AdvShown}
use Rattle.heap.specs.Stops.{StopsAt}
use Rattle.heap.proofs.GatheredSeats.{all_gathered}
use Rattle.heap.proofs.StoppedCores.{stops_shown}
use Rattle.heap.proofs.heap.Heap.stop.Goals as goal

pub returns : goal.returns
returns c =
    let s = c.args.seats in
    let key = sym (ap (λ (x : HeapShown). x.opening) c.self.view_is) in
    let final = c.close_with-closed.ensures.values.2 in
    let is = all_gathered c.advancer.inside.seat.me c.gather_units.new.all.me c.gather_callers.new.all.me _ _ s.units.items s.advancer
    s.callers.items c.advancer.invariant.whole (ap (λ (a : AdvShown). a.known) c.advancer.view_is) c.gather_units.ensures.view
    c.gather_callers.ensures.view in
    IfOk-weaker _ _ (λ words. StopsAt c.args.self.opening s.units.items s.advancer s.callers.items words)
    (λ words read. stops_shown _ c.args.self _ _ _ _ s.units.items s.advancer s.callers.items key final c.requires.seats is _ words
    c.self.invariant.layout_is read)
    c.both_memories-words.ensures
