use Rattle.std.proofs.Common.{List, map, subst}
use Rattle.std.proofs.lemmas.Result.{IfOk-weaker}
use Rattle.heap.specs.HeapShown.{CallerShown}
use Rattle.heap.specs.Stops.{StopsAt}
use Rattle.store_stop.specs.ClosedStores.{IsClosedOn}
use Rattle.store_stop.proofs.ClosedStores.{is_closed}
use Rattle.store_stop.proofs.closed_stores.close_store.Goals as goal

pub returns : goal.returns
returns g c =
    let o = c.args.heap.opening in
    let units = c.args.units.items in
    let callers : List CallerShown = map (λ p. p.ticket) c.args.passes.items in
    record {
      closed = IfOk-weaker c.stop.result (StopsAt o units c.args.advancer c.in_ok-callers.callers.items) (IsClosedOn o callers)
          (λ words stops.
          is_closed o units c.args.advancer callers words
          (subst (λ (cs : List CallerShown). StopsAt o units c.args.advancer cs words) c.in_ok-callers.ensures stops))
          c.stop.ensures;
    }
