use Rattle.std.proofs.Common.{List, map, ap, ◌∙◌, subst}
use Rattle.mont_base.specs.Layout.{units_of}
use Rattle.core_steps.specs.CallerClauses.{receipts_of}
use Rattle.heap.specs.HeapShown.{CallerShown}
use Rattle.heap.specs.Stops.{StopsAt}
use Rattle.store_stop.specs.Headline.{parts_shown}
use Rattle.store_stop.proofs.StoppedStores.{is_stopped}
use Rattle.store_stop.proofs.headline.stop_store.Goals as goal

pub returns : goal.returns
returns g c =
    let o = c.args.heap.opening in
    let tickets = c.in_ok-callers.ensures.tickets in
    let callers : List CallerShown = map (λ p. p.ticket) c.args.passes.items in
    let stops : StopsAt o c.args.units.items c.args.advancer callers c.in_ok-words.words =
    subst (λ (cs : List CallerShown). StopsAt o c.args.units.items c.args.advancer cs c.in_ok-words.words) tickets
    c.in_ok-words.ensures in
    record {
      stopped = is_stopped o c.args.units.items c.args.advancer callers c.in_ok-words.words stops c.args.base_clock c.args.base
          c.requires.base c.units.result c.as_slice.result.now c.in_ok-histories.histories
          (c.units.ensures.value ∙ ap units_of c.layout.ensures)
          (c.as_slice.ensures.value ∙ (c.in_ok-callers.ensures.receipts
          ∙ ap (λ (cs : List CallerShown). map receipts_of (parts_shown cs)) tickets))
          c.in_ok-histories.ensures;
    }
