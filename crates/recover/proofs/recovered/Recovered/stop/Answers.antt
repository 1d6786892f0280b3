use Rattle.std.proofs.Common.{List, sym, subst}
use Rattle.std.specs.Prelude.{IfOk}
use Rattle.heap.specs.HeapShown.{UnitShown}
use Rattle.heap.specs.Stops.{AreAllSeats, AreAtHome}
use Rattle.recover.specs.Recovery.{RecoveredShown}
use Rattle.recover.proofs.Sweeps.{LeavesWords, all_seats, at_home, stop_leaves, told_layout, told_all, told_images}
use Rattle.recover.proofs.recovered.Recovered.stop.Goals as goal

pub stop-requires-clause-seats : goal.stop-requires-clause-seats
stop-requires-clause-seats c =
    subst (λ (us : List UnitShown). AreAllSeats c.self.inside.heap us c.self.inside.advancer c.self.inside.tickets.items)
    (sym c.in_ok-units.ensures) (all_seats _ _ _ _ c.self.invariant)

pub stop-requires-clause-home : goal.stop-requires-clause-home
stop-requires-clause-home c = subst AreAtHome (sym c.in_ok-units.ensures) (at_home _ _ _ _ c.self.invariant)

pub returns : goal.returns
returns c =
    let x : RecoveredShown = record {
      heap = c.self.inside.heap;
      regions = c.self.inside.regions.items;
      tickets = c.self.inside.tickets.items;
      advancer = c.self.inside.advancer;
      swept = c.self.inside.swept;
    } in
    let leaves = subst (λ (y : RecoveredShown). IfOk c.stop.result (LeavesWords y)) c.self.view_is
    (stop_leaves _ _ _ x c.self.invariant c.stop.result c.in_ok-units.units.items c.in_ok-units.ensures c.stop.ensures) in
    record {
      layout = told_layout _ c.stop.result leaves;
      all = told_all _ c.stop.result leaves;
      images = told_images _ c.stop.result leaves;
    }
