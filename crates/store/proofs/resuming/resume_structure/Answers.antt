use Rattle.std.proofs.Common.{◌≡◌, map, ap, refl, ◌∙◌, sym, subst, arith}
use Rattle.std.specs.Prelude.{Some, Ok, Err, IfErr, IsErrAnd}
use Rattle.std.specs.declared.result.Result.{Result}
use Rattle.std.specs.Vec.Iter.{into_iter_items}
use Rattle.std.specs.FinMap as finite
use Rattle.mont_base.specs.declared.kinds.UnitKind.TheVariants as kinds
use Rattle.shard_map.specs.MapShard.{KeepsPairs}
use Rattle.store.specs.declared.unit_structure.Structure.TheVariants.{Map, Queue, Graph, Ordered}
use Rattle.store.specs.MapBoxes.{RefusesBox}
use Rattle.store.proofs.BoxesGiven.{gives_next, gives_to_other, refuses_next}
use Rattle.store.proofs.Resumed.{found_inside, found_kind, found_layout, found_live, kind_in_books, make_structure, resumed_stands, structure_in_books}
use Rattle.store.proofs.resuming.resume_structure.Goals as goal

at_exit : {X E : Type 0} (r : Result X E) (e : E) (Q : E → Type 0) → IsErrAnd r (λ d. d ≡ e) → Q e → IfErr r Q
at_exit (Ok x) e Q is h = absurd is
at_exit (Err d) e Q is h = subst Q (sym is) h

pub kind-requires : goal.kind-requires
kind-requires g c =
    found_inside g.N.HeapName.heap c.args.unit c.args.region c.requires.found c.args.layout c.requires.layout

-- ---- what rebuilding asks of a map unit
pub rebuild-requires-clause-layout : goal.rebuild-requires-clause-layout
rebuild-requires-clause-layout g c =
    found_layout g.N.HeapName.heap c.args.unit c.args.region c.requires.found c.args.layout c.requires.layout

pub rebuild-requires-clause-kind : goal.rebuild-requires-clause-kind
rebuild-requires-clause-kind g c =
    subst KeepsPairs
    (sym (found_kind g.N.HeapName.heap c.args.unit c.args.region c.requires.found c.args.layout c.requires.layout kinds.Map
    (c.kind.ensures ∙ ap Some c.in-Map.is)))
    refl

pub rebuild-requires-clause-live : goal.rebuild-requires-clause-live
rebuild-requires-clause-live g c =
    found_live g.N.HeapName.heap c.args.unit c.args.region c.requires.found c.args.layout c.requires.layout c.args.objects.now
    c.requires.objects

pub rebuild-requires-clause-structure : goal.rebuild-requires-clause-structure
rebuild-requires-clause-structure g c =
    make_structure g.N.HeapName.heap c.args.unit c.args.region c.requires.found c.args.layout c.requires.layout c.args.objects.now
    c.requires.objects c.requires.accepted

pub returns-in_err-index-in-Map-clause-lacks : goal.returns-in_err-index-in-Map-clause-lacks
returns-in_err-index-in-Map-clause-lacks g c =
    let told = c.in_err-index-in-Map.ensures in
    at_exit c.from_residual.result c.in_err-index-in-Map.field-0.0
    (RefusesBox c.args.layout c.args.unit (map (λ b. finite.len (g.I.Index.places b)) (into_iter_items c.args.boxes.now)))
    c.from_residual.ensures.1
    (refuses_next (λ b. finite.len (g.I.Index.places b)) c.args.layout c.args.unit (c.kind.ensures ∙ ap Some c.in-Map.is)
    (into_iter_items c.args.boxes.now) (into_iter_items c.next.new.self) c.next.result c.in_err-index-in-Map.field-0.0
    c.next.ensures.items (λ low. c.next.ensures.variant.1 (omega (arith, low))) told.lacks)

pub returns-in_ok-rebuild-in-Map-clause-stands : goal.returns-in_ok-rebuild-in-Map-clause-stands
returns-in_ok-rebuild-in-Map-clause-stands g c =
    resumed_stands g.N.HeapName.heap c.args.unit c.args.region c.requires.found c.requires.swept c.args.layout c.requires.layout
    (Map c.in_ok-rebuild-in-Map.field-0) c.in_ok-rebuild-in-Map.ensures.region (c.kind.ensures ∙ ap Some c.in-Map.is)

pub returns-in_ok-rebuild-in-Map-clause-boxes : goal.returns-in_ok-rebuild-in-Map-clause-boxes
returns-in_ok-rebuild-in-Map-clause-boxes g c =
    let told = c.in_ok-index-in-Map.ensures in
    gives_next (λ b. finite.len (g.I.Index.places b)) c.args.layout c.args.unit (c.kind.ensures ∙ ap Some c.in-Map.is)
    (into_iter_items c.args.boxes.now) (into_iter_items c.next.new.self) c.next.result c.in_ok-index-in-Map.index
    c.next.ensures.items told.empty.0 told.empty.1

-- ---- a queue unit
pub rebuild-requires-in-Queue-clause-of_queue : goal.rebuild-requires-in-Queue-clause-of_queue
rebuild-requires-in-Queue-clause-of_queue g c =
    kind_in_books g.N.HeapName.heap c.args.unit c.args.region c.requires.found c.args.layout c.requires.layout kinds.Queue
    (c.kind.ensures ∙ ap Some c.in-Queue.is)

pub rebuild-requires-in-Queue-clause-objects : goal.rebuild-requires-in-Queue-clause-objects
rebuild-requires-in-Queue-clause-objects g c =
    found_live g.N.HeapName.heap c.args.unit c.args.region c.requires.found c.args.layout c.requires.layout c.args.objects.now
    c.requires.objects

pub rebuild-requires-in-Queue-clause-structure : goal.rebuild-requires-in-Queue-clause-structure
rebuild-requires-in-Queue-clause-structure g c =
    structure_in_books g.N.HeapName.heap c.args.unit c.args.region c.requires.found c.args.layout c.requires.layout
    c.args.objects.now c.requires.objects c.requires.accepted

pub returns-in_ok-rebuild-in-Queue-clause-stands : goal.returns-in_ok-rebuild-in-Queue-clause-stands
returns-in_ok-rebuild-in-Queue-clause-stands g c =
    resumed_stands g.N.HeapName.heap c.args.unit c.args.region c.requires.found c.requires.swept c.args.layout c.requires.layout
    (Queue c.in_ok-rebuild-in-Queue.field-0) c.in_ok-rebuild-in-Queue.ensures.region (c.kind.ensures ∙ ap Some c.in-Queue.is)

pub returns-in_ok-rebuild-in-Queue-clause-boxes : goal.returns-in_ok-rebuild-in-Queue-clause-boxes
returns-in_ok-rebuild-in-Queue-clause-boxes g c =
    gives_to_other c.args.layout c.args.unit kinds.Queue
    (map (λ b. finite.len (g.I.Index.places b)) (into_iter_items c.args.boxes.now)) (c.kind.ensures ∙ ap Some c.in-Queue.is) refl

-- ---- a graph unit
pub rebuild-requires-in-Graph-clause-kind : goal.rebuild-requires-in-Graph-clause-kind
rebuild-requires-in-Graph-clause-kind g c =
    kind_in_books g.N.HeapName.heap c.args.unit c.args.region c.requires.found c.args.layout c.requires.layout kinds.Graph
    (c.kind.ensures ∙ ap Some c.in-Graph.is)

pub rebuild-requires-in-Graph-clause-objects : goal.rebuild-requires-in-Graph-clause-objects
rebuild-requires-in-Graph-clause-objects g c =
    found_live g.N.HeapName.heap c.args.unit c.args.region c.requires.found c.args.layout c.requires.layout c.args.objects.now
    c.requires.objects

pub rebuild-requires-in-Graph-clause-structure : goal.rebuild-requires-in-Graph-clause-structure
rebuild-requires-in-Graph-clause-structure g c =
    structure_in_books g.N.HeapName.heap c.args.unit c.args.region c.requires.found c.args.layout c.requires.layout
    c.args.objects.now c.requires.objects c.requires.accepted

pub returns-in_ok-rebuild-in-Graph-clause-stands : goal.returns-in_ok-rebuild-in-Graph-clause-stands
returns-in_ok-rebuild-in-Graph-clause-stands g c =
    resumed_stands g.N.HeapName.heap c.args.unit c.args.region c.requires.found c.requires.swept c.args.layout c.requires.layout
    (Graph c.in_ok-rebuild-in-Graph.field-0) c.in_ok-rebuild-in-Graph.ensures.region (c.kind.ensures ∙ ap Some c.in-Graph.is)

pub returns-in_ok-rebuild-in-Graph-clause-boxes : goal.returns-in_ok-rebuild-in-Graph-clause-boxes
returns-in_ok-rebuild-in-Graph-clause-boxes g c =
    gives_to_other c.args.layout c.args.unit kinds.Graph
    (map (λ b. finite.len (g.I.Index.places b)) (into_iter_items c.args.boxes.now)) (c.kind.ensures ∙ ap Some c.in-Graph.is) refl

-- ---- an ordered unit
pub rebuild-requires-in-Ordered-clause-layout : goal.rebuild-requires-in-Ordered-clause-layout
rebuild-requires-in-Ordered-clause-layout g c =
    found_layout g.N.HeapName.heap c.args.unit c.args.region c.requires.found c.args.layout c.requires.layout

pub rebuild-requires-in-Ordered-clause-kind : goal.rebuild-requires-in-Ordered-clause-kind
rebuild-requires-in-Ordered-clause-kind g c =
    found_kind g.N.HeapName.heap c.args.unit c.args.region c.requires.found c.args.layout c.requires.layout kinds.Ordered
    (c.kind.ensures ∙ ap Some c.in-Ordered.is)

pub rebuild-requires-in-Ordered-clause-live : goal.rebuild-requires-in-Ordered-clause-live
rebuild-requires-in-Ordered-clause-live g c =
    found_live g.N.HeapName.heap c.args.unit c.args.region c.requires.found c.args.layout c.requires.layout c.args.objects.now
    c.requires.objects

pub rebuild-requires-in-Ordered-clause-structure : goal.rebuild-requires-in-Ordered-clause-structure
rebuild-requires-in-Ordered-clause-structure g c =
    make_structure g.N.HeapName.heap c.args.unit c.args.region c.requires.found c.args.layout c.requires.layout c.args.objects.now
    c.requires.objects c.requires.accepted

pub returns-in_ok-rebuild-in-Ordered-clause-stands : goal.returns-in_ok-rebuild-in-Ordered-clause-stands
returns-in_ok-rebuild-in-Ordered-clause-stands g c =
    resumed_stands g.N.HeapName.heap c.args.unit c.args.region c.requires.found c.requires.swept c.args.layout c.requires.layout
    (Ordered c.in_ok-rebuild-in-Ordered.field-0) c.in_ok-rebuild-in-Ordered.ensures.region
    (c.kind.ensures ∙ ap Some c.in-Ordered.is)

pub returns-in_ok-rebuild-in-Ordered-clause-boxes : goal.returns-in_ok-rebuild-in-Ordered-clause-boxes
returns-in_ok-rebuild-in-Ordered-clause-boxes g c =
    gives_to_other c.args.layout c.args.unit kinds.Ordered
    (map (λ b. finite.len (g.I.Index.places b)) (into_iter_items c.args.boxes.now)) (c.kind.ensures ∙ ap Some c.in-Ordered.is) refl
