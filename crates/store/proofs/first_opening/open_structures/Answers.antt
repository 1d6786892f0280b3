use Rattle.std.proofs.Common.{◌≡◌, ℕ, map, length, sym, ap, ◌∙◌, subst, arith}
use Rattle.std.specs.Prelude.{Ok, Err, IfErr, IsErrAnd, vec_len}
use Rattle.std.specs.FinMap as finite
use Rattle.std.specs.Vec.Iter.{into_iter_items}
use Rattle.std.specs.declared.result.Result.{Result}
use Rattle.mont_base.specs.Layout.{units_of}
use Rattle.store.specs.MapBoxes.{AreLeft, LacksBox}
use Rattle.store.proofs.Passed.{one_more_passed, none_left, longer, as_many, has_place, has_room}
use Rattle.store.proofs.StructuresOpened.{seat_here, one_more_stands, all_units, one_more_given, have_empty_boxes}
use Rattle.store.proofs.first_opening.open_structures.Goals as goal

at_exit : {X E : Type 0} (r : Result X E) (e : E) (Q : E → Type 0) → IsErrAnd r (λ d. d ≡ e) → Q e → IfErr r Q
at_exit (Ok x) e Q is h = absurd is
at_exit (Err d) e Q is h = subst Q (sym is) h

pub open_structure-requires-clause-seat : goal.open_structure-requires-clause-seat
open_structure-requires-clause-seat g c =
    let i = c.loop-seat.invariant in
    let many = i.many in
    seat_here g.N.HeapName.heap c.args.seats.items c.loop-seat.yielded c.loop-seat.seat-iterator.rest.items _ c.in-Some.seat
    c.len-unit.result c.requires.seats i.seats c.in-Some.ensures.steps.0
    (omega (arith, c.len-unit.ensures, many, c.loop-seat.structures.ok.0))

pub push_reserved-requires : goal.push_reserved-requires
push_reserved-requires g c =
    has_place c.loop-seat.structures.items _ _ c.in-Some.seat (vec_len c.loop-seat.structures) _ c.in-Some.ensures.steps.0
    (omega (arith, c.loop-seat.structures.ok.0)) c.loop-seat.invariant.room

pub loop-seat-preserved : goal.loop-seat-preserved
loop-seat-preserved g c =
    let i = c.loop-seat.invariant in
    let next = c.in-Some.ensures.steps.0 in
    let old = c.loop-seat.structures.items in
    let new = c.push_reserved.new.self.items in
    let box = c.in_ok-structure.structure in
    let push = c.push_reserved.ensures.items in
    let here : c.len-unit.result ≡ length old = omega (arith, c.len-unit.ensures, c.loop-seat.structures.ok.0) in
    let more = longer old new box push in
    record {
      seats = one_more_passed c.args.seats.items c.loop-seat.yielded _ _ c.in-Some.seat i.seats next;
      many = as_many old new box c.loop-seat.yielded c.in-Some.seat push i.many;
      room = has_room old new box _ _ c.in-Some.seat _ _ push next c.push_reserved.ensures.capacity i.room;
      each = one_more_stands g.N.HeapName.heap old new box c.in_ok-opened.opened c.len-unit.result push i.each
          c.in_ok-structure.ensures here c.in_ok-opened.ensures.stands;
      left = one_more_given c.args.layout (map (λ b. finite.len (g.I.Index.places b)) c.args.indexes.items) _ _ (length old)
          c.len-unit.result (length new) i.left (omega (arith, here)) (omega (arith, more)) c.in_ok-opened.ensures.boxes;
    }

pub returns-in_err-opened-clause-lacks : goal.returns-in_err-opened-clause-lacks
returns-in_err-opened-clause-lacks g c =
    let i = c.loop-seat.invariant in
    let boxes = map (λ b. finite.len (g.I.Index.places b)) c.args.indexes.items in
    at_exit c.from_residual-in_err-opened.result c.in_err-opened.field-0.0 (LacksBox c.args.layout boxes)
    c.from_residual-in_err-opened.ensures.1
    (c.in_err-opened.ensures.lacks boxes
    (subst (λ (n : ℕ). AreLeft c.args.layout boxes n (map (λ b. finite.len (g.I.Index.places b)) (into_iter_items c.loop-seat.boxes)))
    (omega (arith, c.len-unit.ensures, c.loop-seat.structures.ok.0)) i.left))

pub returns : goal.returns
returns g c =
    let i = c.loop-seat.invariant in
    let heap = g.N.HeapName.heap in
    let bs = c.loop-seat.structures.items in
    let none : length c.loop-seat.seat-iterator.rest.items ≡ 0 = omega (arith, c.in-None.ensures.steps.0) in
    let passed = none_left c.args.seats.items c.loop-seat.yielded c.loop-seat.seat-iterator.rest.items i.seats none in
    let many : length bs ≡ units_of heap.opening.layout = i.many ∙ (ap length passed ∙ c.requires.seats.many) in
    record {
      units = all_units heap bs many i.each;
      boxes = have_empty_boxes heap c.args.layout (map (λ b. finite.len (g.I.Index.places b)) c.args.indexes.items) _ (length bs)
          c.requires.layout many i.left;
      lacks = tt;
    }
