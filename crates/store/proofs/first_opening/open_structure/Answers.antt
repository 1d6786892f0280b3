use Rattle.std.proofs.Common.{◌≡◌, map, ap, refl, ◌∙◌, sym, subst, arith}
use Rattle.std.specs.Prelude.{Some, Ok, Err, IfErr, IsErrAnd}
use Rattle.std.specs.declared.result.Result.{Result}
use Rattle.std.specs.Vec.Iter.{into_iter_items}
use Rattle.std.specs.FinMap as finite
use Rattle.mont_base.specs.declared.kinds.UnitKind.TheVariants as kinds
use Rattle.mont_base.specs.Layout.{Shape, IsLayout, kind_of}
use Rattle.slots.specs.RegionBeginning.{fresh_books}
use Rattle.store.specs.declared.unit_structure.Structure.TheVariants.{Map, Queue, Graph, Ordered}
use Rattle.store.proofs.FirstSeats.{seat_begins, first_is_empty, first_stands_at}
use Rattle.store.specs.MapBoxes.{RefusesBox}
use Rattle.store.proofs.BoxesGiven.{gives_next, gives_to_other, refuses_next}
use Rattle.store.proofs.first_opening.open_structure.Goals as goal

at_exit : {X E : Type 0} (r : Result X E) (e : E) (Q : E → Type 0) → IsErrAnd r (λ d. d ≡ e) → Q e → IfErr r Q
at_exit (Ok x) e Q is h = absurd is
at_exit (Err d) e Q is h = subst Q (sym is) h

pub fresh-requires-clause-begins : goal.fresh-requires-clause-begins
fresh-requires-clause-begins g c =
    let heap = g.N.HeapName.heap in
    let layout = subst IsLayout c.requires.layout c.units.ensures.layout in
    seat_begins heap c.args.unit c.args.seat c.requires.unused c.requires.seat layout

pub fresh-requires-in-Map-clause-none : goal.fresh-requires-in-Map-clause-none
fresh-requires-in-Map-clause-none g c =
    let heap = g.N.HeapName.heap in
    let layout = subst IsLayout c.requires.layout c.units.ensures.layout in
    let books = c.in_ok-region.ensures.books ∙ ap (λ (l : Shape). fresh_books l c.args.unit) c.requires.layout in
    first_is_empty heap c.args.unit c.args.seat c.requires.unused c.requires.seat layout c.in_ok-region.region
    c.in_ok-region.ensures.seat books

pub fresh-requires-in-Queue-clause-empty : goal.fresh-requires-in-Queue-clause-empty
fresh-requires-in-Queue-clause-empty g c =
    let heap = g.N.HeapName.heap in
    let layout = subst IsLayout c.requires.layout c.units.ensures.layout in
    let books = c.in_ok-region.ensures.books ∙ ap (λ (l : Shape). fresh_books l c.args.unit) c.requires.layout in
    first_is_empty heap c.args.unit c.args.seat c.requires.unused c.requires.seat layout c.in_ok-region.region
    c.in_ok-region.ensures.seat books

pub fresh-requires-in-Graph-clause-none : goal.fresh-requires-in-Graph-clause-none
fresh-requires-in-Graph-clause-none g c =
    let heap = g.N.HeapName.heap in
    let layout = subst IsLayout c.requires.layout c.units.ensures.layout in
    let books = c.in_ok-region.ensures.books ∙ ap (λ (l : Shape). fresh_books l c.args.unit) c.requires.layout in
    first_is_empty heap c.args.unit c.args.seat c.requires.unused c.requires.seat layout c.in_ok-region.region
    c.in_ok-region.ensures.seat books

pub fresh-requires-in-Ordered-clause-none : goal.fresh-requires-in-Ordered-clause-none
fresh-requires-in-Ordered-clause-none g c =
    let heap = g.N.HeapName.heap in
    let layout = subst IsLayout c.requires.layout c.units.ensures.layout in
    let books = c.in_ok-region.ensures.books ∙ ap (λ (l : Shape). fresh_books l c.args.unit) c.requires.layout in
    first_is_empty heap c.args.unit c.args.seat c.requires.unused c.requires.seat layout c.in_ok-region.region
    c.in_ok-region.ensures.seat books

pub returns-in_err-index-in-Map-clause-lacks : goal.returns-in_err-index-in-Map-clause-lacks
returns-in_err-index-in-Map-clause-lacks g c =
    let told = c.in_err-index-in-Map.ensures in
    at_exit c.from_residual-in_err-index-in-Map.result c.in_err-index-in-Map.field-0.0
    (RefusesBox c.args.layout c.args.unit (map (λ b. finite.len (g.I.Index.places b)) (into_iter_items c.args.boxes.now)))
    c.from_residual-in_err-index-in-Map.ensures.1
    (refuses_next (λ b. finite.len (g.I.Index.places b)) c.args.layout c.args.unit (c.kind.ensures ∙ ap Some c.in-Map.is)
    (into_iter_items c.args.boxes.now) (into_iter_items c.next.new.self) c.next.result c.in_err-index-in-Map.field-0.0
    c.next.ensures.items (λ low. c.next.ensures.variant.1 (omega (arith, low))) told.lacks)

pub returns-in_ok-index-in-Map-clause-stands : goal.returns-in_ok-index-in-Map-clause-stands
returns-in_ok-index-in-Map-clause-stands g c =
    let heap = g.N.HeapName.heap in
    let layout = subst IsLayout c.requires.layout c.units.ensures.layout in
    let books = c.in_ok-region.ensures.books ∙ ap (λ (l : Shape). fresh_books l c.args.unit) c.requires.layout in
    first_stands_at heap c.args.unit c.args.seat c.requires.unused c.requires.seat layout c.in_ok-region.region
    c.in_ok-region.ensures.seat books c.in_ok-region.ensures.agrees
    (Map c.fresh-in-Map.result) c.fresh-in-Map.ensures.region
    (ap (λ (l : Shape). kind_of l c.args.unit) (sym c.requires.layout) ∙ (c.kind.ensures ∙ ap Some c.in-Map.is))

pub returns-in_ok-index-in-Map-clause-boxes : goal.returns-in_ok-index-in-Map-clause-boxes
returns-in_ok-index-in-Map-clause-boxes g c =
    let told = c.in_ok-index-in-Map.ensures in
    gives_next (λ b. finite.len (g.I.Index.places b)) c.args.layout c.args.unit (c.kind.ensures ∙ ap Some c.in-Map.is)
    (into_iter_items c.args.boxes.now) (into_iter_items c.next.new.self) c.next.result c.in_ok-index-in-Map.index
    c.next.ensures.items told.empty.0 told.empty.1

pub returns-in_ok-fresh-in-Queue-clause-stands : goal.returns-in_ok-fresh-in-Queue-clause-stands
returns-in_ok-fresh-in-Queue-clause-stands g c =
    let heap = g.N.HeapName.heap in
    let layout = subst IsLayout c.requires.layout c.units.ensures.layout in
    let books = c.in_ok-region.ensures.books ∙ ap (λ (l : Shape). fresh_books l c.args.unit) c.requires.layout in
    first_stands_at heap c.args.unit c.args.seat c.requires.unused c.requires.seat layout c.in_ok-region.region
    c.in_ok-region.ensures.seat books c.in_ok-region.ensures.agrees
    (Queue c.in_ok-fresh-in-Queue.field-0) c.in_ok-fresh-in-Queue.ensures.region
    (ap (λ (l : Shape). kind_of l c.args.unit) (sym c.requires.layout) ∙ (c.kind.ensures ∙ ap Some c.in-Queue.is))

pub returns-in_ok-fresh-in-Queue-clause-boxes : goal.returns-in_ok-fresh-in-Queue-clause-boxes
returns-in_ok-fresh-in-Queue-clause-boxes g c =
    gives_to_other c.args.layout c.args.unit kinds.Queue
    (map (λ b. finite.len (g.I.Index.places b)) (into_iter_items c.args.boxes.now)) (c.kind.ensures ∙ ap Some c.in-Queue.is) refl

pub returns-in_ok-fresh-in-Graph-clause-stands : goal.returns-in_ok-fresh-in-Graph-clause-stands
returns-in_ok-fresh-in-Graph-clause-stands g c =
    let heap = g.N.HeapName.heap in
    let layout = subst IsLayout c.requires.layout c.units.ensures.layout in
    let books = c.in_ok-region.ensures.books ∙ ap (λ (l : Shape). fresh_books l c.args.unit) c.requires.layout in
    first_stands_at heap c.args.unit c.args.seat c.requires.unused c.requires.seat layout c.in_ok-region.region
    c.in_ok-region.ensures.seat books c.in_ok-region.ensures.agrees
    (Graph c.in_ok-fresh-in-Graph.field-0) c.in_ok-fresh-in-Graph.ensures.region
    (ap (λ (l : Shape). kind_of l c.args.unit) (sym c.requires.layout) ∙ (c.kind.ensures ∙ ap Some c.in-Graph.is))

pub returns-in_ok-fresh-in-Graph-clause-boxes : goal.returns-in_ok-fresh-in-Graph-clause-boxes
returns-in_ok-fresh-in-Graph-clause-boxes g c =
    gives_to_other c.args.layout c.args.unit kinds.Graph
    (map (λ b. finite.len (g.I.Index.places b)) (into_iter_items c.args.boxes.now)) (c.kind.ensures ∙ ap Some c.in-Graph.is) refl

pub returns-in_ok-fresh-in-Ordered-clause-stands : goal.returns-in_ok-fresh-in-Ordered-clause-stands
returns-in_ok-fresh-in-Ordered-clause-stands g c =
    let heap = g.N.HeapName.heap in
    let layout = subst IsLayout c.requires.layout c.units.ensures.layout in
    let books = c.in_ok-region.ensures.books ∙ ap (λ (l : Shape). fresh_books l c.args.unit) c.requires.layout in
    first_stands_at heap c.args.unit c.args.seat c.requires.unused c.requires.seat layout c.in_ok-region.region
    c.in_ok-region.ensures.seat books c.in_ok-region.ensures.agrees
    (Ordered c.in_ok-fresh-in-Ordered.field-0) c.in_ok-fresh-in-Ordered.ensures.region
    (ap (λ (l : Shape). kind_of l c.args.unit) (sym c.requires.layout) ∙ (c.kind.ensures ∙ ap Some c.in-Ordered.is))

pub returns-in_ok-fresh-in-Ordered-clause-boxes : goal.returns-in_ok-fresh-in-Ordered-clause-boxes
returns-in_ok-fresh-in-Ordered-clause-boxes g c =
    gives_to_other c.args.layout c.args.unit kinds.Ordered
    (map (λ b. finite.len (g.I.Index.places b)) (into_iter_items c.args.boxes.now)) (c.kind.ensures ∙ ap Some c.in-Ordered.is) refl
