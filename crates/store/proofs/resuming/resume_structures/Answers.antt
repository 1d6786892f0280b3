use Rattle.std.proofs.Common.{◌≡◌, ℕ, map, length, sym, ap, ◌∙◌, subst, arith}
use Rattle.std.specs.Prelude.{Ok, Err, IfErr, IsErrAnd, vec_len}
use Rattle.std.specs.FinMap as finite
use Rattle.std.specs.Vec.Iter.{into_iter_items}
use Rattle.std.specs.declared.result.Result.{Result}
use Rattle.mont_base.specs.Layout.{units_of}
use Rattle.store.specs.MapBoxes.{AreLeft, LacksBox}
use Rattle.store.proofs.Passed.{one_more_passed, none_left, longer, as_many, has_place, has_room}
use Rattle.store.proofs.Resumed.{region_here, swept_here, objects_here, objects_inside}
use Rattle.store.proofs.StructuresOpened.{one_more_stands, all_units, one_more_given, have_empty_boxes}
use Rattle.store.proofs.resuming.resume_structures.Goals as goal

at_exit : {X E : Type 0} (r : Result X E) (e : E) (Q : E → Type 0) → IsErrAnd r (λ d. d ≡ e) → Q e → IfErr r Q
at_exit (Ok x) e Q is h = absurd is
at_exit (Err d) e Q is h = subst Q (sym is) h

pub bounds-objects-unit : goal.bounds-objects-unit
bounds-objects-unit g c =
    let i = c.loop-region.invariant in
    let many = i.many in
    let low = objects_inside g.N.HeapName.heap c.args.regions.items c.loop-region.yielded c.loop-region.region-iterator.rest.items _
    c.in-Some.region c.len-unit.result c.args.objects.now c.requires.regions c.requires.objects i.regions c.in-Some.ensures.steps.0
    (omega (arith, c.len-unit.ensures, many, c.loop-region.structures.ok.0)) in
    omega (arith, low)

pub resume_structure-requires-clause-found : goal.resume_structure-requires-clause-found
resume_structure-requires-clause-found g c =
    let i = c.loop-region.invariant in
    let many = i.many in
    region_here g.N.HeapName.heap c.args.regions.items c.loop-region.yielded c.loop-region.region-iterator.rest.items _ c.in-Some.region
    c.len-unit.result c.requires.regions i.regions c.in-Some.ensures.steps.0
    (omega (arith, c.len-unit.ensures, many, c.loop-region.structures.ok.0))

pub resume_structure-requires-clause-swept : goal.resume_structure-requires-clause-swept
resume_structure-requires-clause-swept g c =
    let i = c.loop-region.invariant in
    let many = i.many in
    swept_here g.N.HeapName.heap c.args.regions.items c.loop-region.yielded c.loop-region.region-iterator.rest.items _ c.in-Some.region
    c.len-unit.result c.requires.regions i.regions c.in-Some.ensures.steps.0
    (omega (arith, c.len-unit.ensures, many, c.loop-region.structures.ok.0))

pub resume_structure-requires-clause-objects : goal.resume_structure-requires-clause-objects
resume_structure-requires-clause-objects g c =
    let i = c.loop-region.invariant in
    let many = i.many in
    let heap = g.N.HeapName.heap in
    let low = objects_inside heap c.args.regions.items c.loop-region.yielded c.loop-region.region-iterator.rest.items _
    c.in-Some.region c.len-unit.result c.args.objects.now c.requires.regions c.requires.objects i.regions c.in-Some.ensures.steps.0
    (omega (arith, c.len-unit.ensures, many, c.loop-region.structures.ok.0)) in
    c.as_slice-live.ensures.value
    ∙ objects_here heap c.args.objects.now c.index-objects-unit.result c.len-unit.result c.requires.objects low c.index-objects-unit.is

pub push_reserved-requires : goal.push_reserved-requires
push_reserved-requires g c =
    has_place c.loop-region.structures.items _ _ c.in-Some.region (vec_len c.loop-region.structures) _ c.in-Some.ensures.steps.0
    (omega (arith, c.loop-region.structures.ok.0)) c.loop-region.invariant.room

pub loop-region-preserved : goal.loop-region-preserved
loop-region-preserved g c =
    let i = c.loop-region.invariant in
    let next = c.in-Some.ensures.steps.0 in
    let old = c.loop-region.structures.items in
    let new = c.push_reserved.new.self.items in
    let box = c.in_ok-structure.structure in
    let push = c.push_reserved.ensures.items in
    let here : c.len-unit.result ≡ length old = omega (arith, c.len-unit.ensures, c.loop-region.structures.ok.0) in
    let more = longer old new box push in
    record {
      regions = one_more_passed c.args.regions.items c.loop-region.yielded _ _ c.in-Some.region i.regions next;
      many = as_many old new box c.loop-region.yielded c.in-Some.region push i.many;
      room = has_room old new box _ _ c.in-Some.region _ _ push next c.push_reserved.ensures.capacity i.room;
      each = one_more_stands g.N.HeapName.heap old new box c.in_ok-resumed.resumed c.len-unit.result push i.each
          c.in_ok-structure.ensures here c.in_ok-resumed.ensures.stands;
      left = one_more_given c.args.layout (map (λ b. finite.len (g.I.Index.places b)) c.args.indexes.items) _ _ (length old)
          c.len-unit.result (length new) i.left (omega (arith, here)) (omega (arith, more)) c.in_ok-resumed.ensures.boxes;
    }

pub returns-in_err-resumed-clause-lacks : goal.returns-in_err-resumed-clause-lacks
returns-in_err-resumed-clause-lacks g c =
    let i = c.loop-region.invariant in
    let boxes = map (λ b. finite.len (g.I.Index.places b)) c.args.indexes.items in
    at_exit c.from_residual-in_err-resumed.result c.in_err-resumed.field-0.0 (LacksBox c.args.layout boxes)
    c.from_residual-in_err-resumed.ensures.1
    (c.in_err-resumed.ensures.lacks boxes
    (subst (λ (n : ℕ). AreLeft c.args.layout boxes n (map (λ b. finite.len (g.I.Index.places b)) (into_iter_items c.loop-region.boxes)))
    (omega (arith, c.len-unit.ensures, c.loop-region.structures.ok.0)) i.left))

pub returns : goal.returns
returns g c =
    let i = c.loop-region.invariant in
    let heap = g.N.HeapName.heap in
    let bs = c.loop-region.structures.items in
    let none : length c.loop-region.region-iterator.rest.items ≡ 0 = omega (arith, c.in-None.ensures.steps.0) in
    let passed = none_left c.args.regions.items c.loop-region.yielded c.loop-region.region-iterator.rest.items i.regions none in
    let many : length bs ≡ units_of heap.opening.layout = i.many ∙ (ap length passed ∙ c.requires.regions.many) in
    record {
      units = all_units heap bs many i.each;
      boxes = have_empty_boxes heap c.args.layout (map (λ b. finite.len (g.I.Index.places b)) c.args.indexes.items) _ (length bs)
          c.requires.layout many i.left;
      lacks = tt;
    }
