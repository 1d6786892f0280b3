use Rattle.std.proofs.Common.{◌≡◌, ◌∙◌, List, map, sym, ap, refl, subst, arith}
use Rattle.std.specs.Prelude.{All, Ok, Err, IfErr, IsErrAnd}
use Rattle.std.specs.FinMap as finite
use Rattle.std.specs.declared.result.Result.{Result}
use Rattle.mont_base.specs.declared.constants.TheConstants.{FIRST_CLOCK}
use Rattle.mont_base.specs.Image.{empty_states}
use Rattle.mont_base.specs.Layout.{Shape, IsLayout}
use Rattle.plain.specs.States.{states_of}
use Rattle.heap.specs.HeapShown.{HeapShown, AdvShown, CallerShown}
use Rattle.heap_pass.specs.OfHeap.{IsAdvancerOf}
use Rattle.heap_pass.specs.OfLayout.{IsOfLayout}
use Rattle.store.specs.MapBoxes.{HaveEmptyBoxes, LacksBox}
use Rattle.store.specs.Store.{AreAllCallers}
use Rattle.store.proofs.FirstSeats.{IsFirstTicket, fresh_passes, tickets_are_first, seats_are_first, never_used, as_many_callers, all_callers, advancer_fits, advancer_rests, advancer_clock, is_base}
use Rattle.store.proofs.store.Store.fresh.Goals as goal

at_exit : {X E : Type 0} (r : Result X E) (e : E) (Q : E → Type 0) → IsErrAnd r (λ d. d ≡ e) → Q e → IfErr r Q
at_exit (Ok x) e Q is h = absurd is
at_exit (Err d) e Q is h = subst Q (sym is) h

pub first_passes-requires : goal.first_passes-requires
first_passes-requires g c =
    let s = c.args.seats in
    let many = as_many_callers g.N.HeapName.heap s.units.items s.advancer s.callers.items c.requires.opens in
    omega (arith, many, c.requires.gates, s.callers.ok.0)

pub open_structures-requires-clause-layout : goal.open_structures-requires-clause-layout
open_structures-requires-clause-layout g c =
    c.layout-layout.ensures ∙ ap (λ (h : HeapShown). h.opening.layout) c.requires.named

pub open_structures-requires-clause-unused : goal.open_structures-requires-clause-unused
open_structures-requires-clause-unused g c =
    let s = c.args.seats in never_used g.N.HeapName.heap s.units.items s.advancer s.callers.items c.requires.opens

pub open_structures-requires-clause-seats : goal.open_structures-requires-clause-seats
open_structures-requires-clause-seats g c =
    let s = c.args.seats in seats_are_first g.N.HeapName.heap s.units.items s.advancer s.callers.items c.requires.opens

pub new-advancer-requires-clause-layout : goal.new-advancer-requires-clause-layout
new-advancer-requires-clause-layout g c =
    let s = c.args.seats in
    let same = c.layout-layout.ensures ∙ ap (λ (h : HeapShown). h.opening.layout) c.requires.named in
    let fits = advancer_fits g.N.HeapName.heap s.units.items s.advancer s.callers.items c.requires.opens
    (subst IsLayout same c.units.ensures.layout) in
    subst (λ (l : Shape). IsOfLayout l s.advancer.known) (sym same) fits.of_layout

pub new-advancer-requires-clause-rest : goal.new-advancer-requires-clause-rest
new-advancer-requires-clause-rest g c =
    let s = c.args.seats in advancer_rests g.N.HeapName.heap s.units.items s.advancer s.callers.items c.requires.opens

pub new-advancer-requires-clause-clock : goal.new-advancer-requires-clause-clock
new-advancer-requires-clause-clock g c =
    let s = c.args.seats in advancer_clock g.N.HeapName.heap s.units.items s.advancer s.callers.items c.requires.opens

pub of_structures-store-requires-clause-advancer : goal.of_structures-store-requires-clause-advancer
of_structures-store-requires-clause-advancer g c =
    let s = c.args.seats in
    let same = c.layout-layout.ensures ∙ ap (λ (h : HeapShown). h.opening.layout) c.requires.named in
    subst (λ (a : AdvShown). IsAdvancerOf g.N.HeapName.heap a) (sym c.new-advancer.ensures)
    (advancer_fits g.N.HeapName.heap s.units.items s.advancer s.callers.items c.requires.opens
    (subst IsLayout same c.units.ensures.layout))

pub of_structures-store-requires-clause-base : goal.of_structures-store-requires-clause-base
of_structures-store-requires-clause-base g c =
    let s = c.args.seats in
    let same = c.layout-layout.ensures ∙ ap (λ (h : HeapShown). h.opening.layout) c.requires.named in
    is_base g.N.HeapName.heap s.units.items s.advancer s.callers.items c.requires.opens
    (subst IsLayout same c.units.ensures.layout) FIRST_CLOCK (states_of c.in_ok-base.base) refl
    (c.in_ok-base.ensures ∙ ap empty_states same)

pub returns : goal.returns
returns g c =
    let s = c.args.seats in
    let same = c.layout-layout.ensures ∙ ap (λ (h : HeapShown). h.opening.layout) c.requires.named in
    let first = subst (All (IsFirstTicket g.N.HeapName.heap)) (sym c.in_ok-passes.ensures.tickets)
    (tickets_are_first g.N.HeapName.heap s.units.items s.advancer s.callers.items c.requires.opens) in
    record {
      tickets = c.in_ok-passes.ensures.tickets;
      callers = subst (λ (cs : List CallerShown). AreAllCallers g.N.HeapName.heap cs) (sym c.in_ok-passes.ensures.tickets)
          (all_callers g.N.HeapName.heap s.units.items s.advancer s.callers.items c.requires.opens);
      fresh = fresh_passes g.N.HeapName.heap c.in_ok-passes.passes.items first c.in_ok-passes.ensures.empty;
      gates = c.in_ok-passes.ensures.gates;
      boxes = subst (λ (l : Shape). HaveEmptyBoxes l (map (λ b. finite.len (g.I.Index.places b)) c.args.indexes.items)) same
          c.in_ok-structures.ensures.boxes;
      lacks = tt;
    }

pub returns-in_err-structures-clause-lacks : goal.returns-in_err-structures-clause-lacks
returns-in_err-structures-clause-lacks g c =
    let same = c.layout-layout.ensures ∙ ap (λ (h : HeapShown). h.opening.layout) c.requires.named in
    let boxes = map (λ b. finite.len (g.I.Index.places b)) c.args.indexes.items in
    at_exit c.from_residual-in_err-structures.result c.in_err-structures.field-0.0
    (LacksBox g.N.HeapName.heap.opening.layout boxes) c.from_residual-in_err-structures.ensures.1
    (subst (λ (l : Shape). LacksBox l boxes c.in_err-structures.field-0.0) same c.in_err-structures.ensures.lacks)
