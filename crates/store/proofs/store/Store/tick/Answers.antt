use Rattle.std.proofs.Common.{◌<◌, length, ap, refl, sym, subst, ◌∙◌}
use Rattle.std.specs.Prelude.{IfOk}
use Rattle.mont_base.specs.Image.{clock_of}
use Rattle.heap_rule.specs.Views.{note_of_advancer}
use Rattle.heap.specs.HeapShown.{HeapShown, AdvShown, CallerShown}
use Rattle.heap_pass.specs.OfHeap.{IsAdvancerOf}
use Rattle.store.specs.StoreCalls.{IsSamePass}
use Rattle.store.specs.Ticking.{HasTicked}
use Rattle.store.proofs.Ticks.{heard_same, shown_fits, same_fits, ticked_by}
use Rattle.store.proofs.store.Store.tick.Given.{Over}
use Rattle.store.proofs.store.Store.tick.Goals.{After-take_note}
use Rattle.store.proofs.store.Store.tick.Goals as goal

pub advance-answer-requires-clause-heap : goal.advance-answer-requires-clause-heap
advance-answer-requires-clause-heap g c =
    let named = c.deref_mut-named.result.now in
    let fits = shown_fits g.N.HeapName.heap c.self.inside.heap named.part c.show.new.self c.args.pass.now.ticket.known
    c.self.invariant.of_heap named.of_heap c.show.ensures.advancer in
    fits.of_heap.of_table

pub advance-answer-requires-clause-layout : goal.advance-answer-requires-clause-layout
advance-answer-requires-clause-layout g c =
    let named = c.deref_mut-named.result.now in
    let fits = shown_fits g.N.HeapName.heap c.self.inside.heap named.part c.show.new.self c.args.pass.now.ticket.known
    c.self.invariant.of_heap named.of_heap c.show.ensures.advancer in
    fits.of_layout

pub advance-answer-requires-clause-clean : goal.advance-answer-requires-clause-clean
advance-answer-requires-clause-clean g c =
    let named = c.deref_mut-named.result.now in
    let fits = shown_fits g.N.HeapName.heap c.self.inside.heap named.part c.show.new.self c.args.pass.now.ticket.known
    c.self.invariant.of_heap named.of_heap c.show.ensures.advancer in
    λ rests. fits.of_heap.all_clean

pub take_note-requires-clause-heap : goal.take_note-requires-clause-heap
take_note-requires-clause-heap g c =
    let named = c.deref_mut-named.result.now in
    let fits = shown_fits g.N.HeapName.heap c.self.inside.heap named.part c.show.new.self c.args.pass.now.ticket.known
    c.self.invariant.of_heap named.of_heap c.show.ensures.advancer in
    c.advance-answer.ensures.same.table ∙ fits.of_heap.of_table

pub take_note-requires-clause-ticket : goal.take_note-requires-clause-ticket
take_note-requires-clause-ticket g c =
    ap (λ (t : CallerShown). t.table) c.show.ensures.caller
    ∙ (c.requires.pass ∙ sym (ap (λ (h : HeapShown). h.table) c.self.invariant.of_heap))

pub invariant_of-named : goal.invariant_of-named
invariant_of-named g c =
    let named = c.deref_mut-named.result.now in
    let heap = g.N.HeapName.heap in
    record {
      of_heap = subst (λ (a : AdvShown). IsAdvancerOf heap a) (sym c.take_note.ensures.advancer)
          (same_fits heap c.show.new.self c.advance-answer.new.self
          (shown_fits heap heap named.part c.show.new.self c.args.pass.now.ticket.known refl named.of_heap c.show.ensures.advancer)
          c.advance-answer.ensures.same);
    }

-- what the caller has of the advance's own answer
ticked : (g : Over) (c : After-take_note g)
    → HasTicked g.N.HeapName.heap c.args.pass.now.ticket c.take_note.new.pass.ticket c.advance-answer.result
ticked g c =
    let named = c.deref_mut-named.result.now in
    let e = c.advance-answer.ensures in
    ticked_by g.N.HeapName.heap named.part c.show.new.self c.advance-answer.new.self c.args.pass.now.ticket c.show.new.ticket
    c.take_note.new.pass.ticket c.advance-answer.result named.of_heap c.show.ensures.advancer e.same c.show.ensures.caller
    c.take_note.ensures.caller e.ok e.refused e.reason e.clock_end
    (subst (λ (h : HeapShown). IfOk c.advance-answer.result (λ clock. clock_of h.opening.words < clock))
    c.self.invariant.of_heap e.begun)

same : (g : Over) (c : After-take_note g) → IsSamePass c.args.pass.now c.take_note.new.pass
same g c =
    let t = ticked g c in
    heard_same c.args.pass.now c.take_note.new.pass c.take_note.ensures.receipts
    (note_of_advancer (length c.args.pass.now.ticket.known.part.fronts) t.behind.known) t.noted

pub returns-in-Ok-clause-ticked : goal.returns-in-Ok-clause-ticked
returns-in-Ok-clause-ticked g c =
    subst (HasTicked g.N.HeapName.heap c.args.pass.now.ticket c.take_note.new.pass.ticket) c.in-Ok.is
    (ticked g (goal.at.returns-in-Ok-clause-ticked g c).After-take_note)

pub returns-in-Ok-clause-same : goal.returns-in-Ok-clause-same
returns-in-Ok-clause-same g c = same g (goal.at.returns-in-Ok-clause-same g c).After-take_note

pub returns-clause-ticked : goal.returns-clause-ticked
returns-clause-ticked g c =
    subst (HasTicked g.N.HeapName.heap c.args.pass.now.ticket c.take_note.new.pass.ticket) c.in-Err.is
    (ticked g (goal.at.returns-clause-ticked g c).After-take_note)

pub returns-clause-same : goal.returns-clause-same
returns-clause-same g c = same g (goal.at.returns-clause-same g c).After-take_note
