use Rattle.std.proofs.Common.{◌≡◌, ◌∙◌, List, map, sym, subst, arith}
use Rattle.std.specs.Prelude.{Ok, Err, IfErr, IsErrAnd}
use Rattle.std.specs.FinMap as finite
use Rattle.std.specs.declared.result.Result.{Result}
use Rattle.mont_base.specs.Layout.{Shape}
use Rattle.heap.specs.HeapShown.{AdvShown, CallerShown}
use Rattle.heap_pass.specs.OfHeap.{IsAdvancerOf}
use Rattle.store.specs.MapBoxes.{HaveEmptyBoxes, LacksBox}
use Rattle.store.specs.Store.{AreAllCallers}
use Rattle.store.proofs.Resumed.{objects_lent, parts_recovery, parts_layout, parts_heap, parts_base, parts_objects, parts_callers, parts_clock, parts_swept, parts_advancer, found_of_layout, found_rests, found_passes}
use Rattle.store.proofs.store.Store.resume.Goals as goal

at_exit : {X E : Type 0} (r : Result X E) (e : E) (Q : E → Type 0) → IsErrAnd r (λ d. d ≡ e) → Q e → IfErr r Q
at_exit (Ok x) e Q is h = absurd is
at_exit (Err d) e Q is h = subst Q (sym is) h

pub first_passes-requires : goal.first_passes-requires
first_passes-requires g c =
    let p = c.into_parts-layout.result in
    let k = parts_recovery g.N.HeapName.heap c.args.recovered p c.requires.named c.into_parts-layout.ensures in
    let many = k.caller_count in
    omega (arith, many, c.requires.gates, p.tickets.ok.0)

pub resume_structures-requires-clause-layout : goal.resume_structures-requires-clause-layout
resume_structures-requires-clause-layout g c =
    parts_layout g.N.HeapName.heap c.args.recovered c.into_parts-layout.result c.requires.named c.into_parts-layout.ensures

pub resume_structures-requires-clause-accepted : goal.resume_structures-requires-clause-accepted
resume_structures-requires-clause-accepted g c =
    (parts_recovery g.N.HeapName.heap c.args.recovered c.into_parts-layout.result c.requires.named c.into_parts-layout.ensures).accepted

pub resume_structures-requires-clause-regions : goal.resume_structures-requires-clause-regions
resume_structures-requires-clause-regions g c =
    parts_swept g.N.HeapName.heap c.args.recovered c.into_parts-layout.result c.requires.named c.into_parts-layout.ensures c.requires.swept

pub resume_structures-requires-clause-objects : goal.resume_structures-requires-clause-objects
resume_structures-requires-clause-objects g c =
    let p = c.into_parts-layout.result in
    objects_lent g.N.HeapName.heap p.objects.items c.as_slice-live.result.now c.as_slice-live.ensures.value
    (parts_objects g.N.HeapName.heap c.args.recovered p c.requires.named c.into_parts-layout.ensures)

pub new-advancer-requires-clause-layout : goal.new-advancer-requires-clause-layout
new-advancer-requires-clause-layout g c =
    let p = c.into_parts-layout.result in
    let k = parts_recovery g.N.HeapName.heap c.args.recovered p c.requires.named c.into_parts-layout.ensures in
    found_of_layout g.N.HeapName.heap p.advancer k.advancer p.layout
    (parts_layout g.N.HeapName.heap c.args.recovered p c.requires.named c.into_parts-layout.ensures)

pub new-advancer-requires-clause-rest : goal.new-advancer-requires-clause-rest
new-advancer-requires-clause-rest g c =
    let p = c.into_parts-layout.result in
    let k = parts_recovery g.N.HeapName.heap c.args.recovered p c.requires.named c.into_parts-layout.ensures in
    found_rests g.N.HeapName.heap p.advancer k.advancer

pub new-advancer-requires-clause-clock : goal.new-advancer-requires-clause-clock
new-advancer-requires-clause-clock g c =
    parts_clock g.N.HeapName.heap c.args.recovered c.into_parts-layout.result c.requires.named c.into_parts-layout.ensures

pub new-advancer-requires-clause-last : goal.new-advancer-requires-clause-last
new-advancer-requires-clause-last g c =
    let k = parts_recovery g.N.HeapName.heap c.args.recovered c.into_parts-layout.result c.requires.named c.into_parts-layout.ensures in
    let last = k.accepted.clock_last in
    let is = k.clock_is in
    omega (arith, last, is)

pub of_structures-store-requires-clause-named : goal.of_structures-store-requires-clause-named
of_structures-store-requires-clause-named g c =
    parts_heap g.N.HeapName.heap c.args.recovered c.into_parts-layout.result c.requires.named c.into_parts-layout.ensures

pub of_structures-store-requires-clause-advancer : goal.of_structures-store-requires-clause-advancer
of_structures-store-requires-clause-advancer g c =
    subst (λ (a : AdvShown). IsAdvancerOf g.N.HeapName.heap a) (sym c.new-advancer.ensures)
    (parts_advancer g.N.HeapName.heap c.args.recovered c.into_parts-layout.result c.requires.named c.into_parts-layout.ensures
    c.requires.swept)

pub of_structures-store-requires-clause-base : goal.of_structures-store-requires-clause-base
of_structures-store-requires-clause-base g c =
    parts_base g.N.HeapName.heap c.args.recovered c.into_parts-layout.result c.requires.named c.into_parts-layout.ensures

pub returns : goal.returns
returns g c =
    let p = c.into_parts-layout.result in
    let heap = g.N.HeapName.heap in
    let of = c.into_parts-layout.ensures in
    let k = parts_recovery heap c.args.recovered p c.requires.named of in
    let same = parts_layout heap c.args.recovered p c.requires.named of in
    let passes = c.in_ok-passes.ensures in
    record {
      tickets = passes.tickets ∙ of.tickets;
      callers = subst (λ (cs : List CallerShown). AreAllCallers heap cs) (sym passes.tickets)
          (parts_callers heap c.args.recovered p c.requires.named of);
      fresh = found_passes heap p.tickets.items k.tickets c.in_ok-passes.passes.items passes.tickets passes.empty;
      gates = passes.gates;
      boxes = subst (λ (l : Shape). HaveEmptyBoxes l (map (λ b. finite.len (g.I.Index.places b)) c.args.indexes.items)) same
          c.in_ok-structures.ensures.boxes;
      lacks = tt;
    }

pub returns-in_err-structures-clause-lacks : goal.returns-in_err-structures-clause-lacks
returns-in_err-structures-clause-lacks g c =
    let same = parts_layout g.N.HeapName.heap c.args.recovered c.into_parts-layout.result c.requires.named c.into_parts-layout.ensures in
    let boxes = map (λ b. finite.len (g.I.Index.places b)) c.args.indexes.items in
    at_exit c.from_residual-in_err-structures.result c.in_err-structures.field-0.0
    (LacksBox g.N.HeapName.heap.opening.layout boxes) c.from_residual-in_err-structures.ensures.1
    (subst (λ (l : Shape). LacksBox l boxes c.in_err-structures.field-0.0) same c.in_err-structures.ensures.lacks)
