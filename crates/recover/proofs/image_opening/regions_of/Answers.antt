use Rattle.std.proofs.Common.{◌≡◌, ℕ, length, ap, sym, ◌∙◌, subst, arith}
use Rattle.std.specs.Prelude.{vec_len}
use Rattle.mont_base.specs.Image.{records_of}
use Rattle.mont_base.specs.Layout.{Shape, units_of}
use Rattle.core_steps.specs.Places.{EachAt}
use Rattle.core_steps.proofs.RowFacts.{each_push}
use Rattle.recover.specs.Recovery.{IsRegionOpened}
use Rattle.recover.proofs.Dealt.{seat_here, place_inside, found_at, units_many}
use Rattle.recover.proofs.Passed.{one_more_passed, none_left, as_many, has_place, has_room}
use Rattle.recover.proofs.image_opening.regions_of.Goals as goal

-- how many units are after
pub bounds-found-unit : goal.bounds-found-unit
bounds-found-unit c =
    let i = c.loop-seat.invariant in
    let many = i.many in
    let here = c.len-unit.ensures in
    let units : length c.args.seats.items ≡ units_of c.args.heap.now.opening.layout =
    ap length c.requires.seats ∙ units_many c.args.heap.now (units_of c.args.heap.now.opening.layout) in
    let low = place_inside c.args.seats.items c.loop-seat.yielded c.loop-seat.seat-iterator.rest.items _ c.in-Some.seat
    (units_of c.args.heap.now.opening.layout) i.seats c.in-Some.ensures.steps.0 units in
    let found = c.requires.many in
    let same = ap units_of c.requires.layout in
    omega (arith, many, here, low, found, same, c.loop-seat.regions.ok.0)

pub region_of-requires-clause-inside : goal.region_of-requires-clause-inside
region_of-requires-clause-inside c =
    let i = c.loop-seat.invariant in
    let many = i.many in
    let here = c.len-unit.ensures in
    let units : length c.args.seats.items ≡ units_of c.args.heap.now.opening.layout =
    ap length c.requires.seats ∙ units_many c.args.heap.now (units_of c.args.heap.now.opening.layout) in
    let low = place_inside c.args.seats.items c.loop-seat.yielded c.loop-seat.seat-iterator.rest.items _ c.in-Some.seat
    (units_of c.args.heap.now.opening.layout) i.seats c.in-Some.ensures.steps.0 units in
    let same = ap units_of c.requires.layout in
    omega (arith, many, here, low, same, c.loop-seat.regions.ok.0)

pub region_of-requires-clause-seat : goal.region_of-requires-clause-seat
region_of-requires-clause-seat c =
    let i = c.loop-seat.invariant in
    let many = i.many in
    seat_here c.args.heap.now c.args.seats.items c.loop-seat.yielded c.loop-seat.seat-iterator.rest.items _ c.in-Some.seat
    (units_of c.args.heap.now.opening.layout) c.len-unit.result c.requires.seats i.seats c.in-Some.ensures.steps.0
    (omega (arith, c.len-unit.ensures, many, c.loop-seat.regions.ok.0))

pub region_of-requires-clause-records : goal.region_of-requires-clause-records
region_of-requires-clause-records c =
    let i = c.loop-seat.invariant in
    let many = i.many in
    let here = c.len-unit.ensures in
    let units : length c.args.seats.items ≡ units_of c.args.heap.now.opening.layout =
    ap length c.requires.seats ∙ units_many c.args.heap.now (units_of c.args.heap.now.opening.layout) in
    let low = place_inside c.args.seats.items c.loop-seat.yielded c.loop-seat.seat-iterator.rest.items _ c.in-Some.seat
    (units_of c.args.heap.now.opening.layout) i.seats c.in-Some.ensures.steps.0 units in
    let found = c.requires.many in
    let same = ap units_of c.requires.layout in
    let f = found_at c.args.layout c.args.heap.now.opening.words c.args.found.now c.len-unit.result c.index-found-unit.result
    c.requires.found (omega (arith, many, here, low, found, same, c.loop-seat.regions.ok.0)) c.index-found-unit.is in
    c.as_slice-records.ensures ∙ f.records
    ∙ ap (λ (s : Shape). records_of s c.args.heap.now.opening.words c.len-unit.result) c.requires.layout

pub region_of-requires-clause-lost : goal.region_of-requires-clause-lost
region_of-requires-clause-lost c =
    let i = c.loop-seat.invariant in
    let many = i.many in
    let here = c.len-unit.ensures in
    let units : length c.args.seats.items ≡ units_of c.args.heap.now.opening.layout =
    ap length c.requires.seats ∙ units_many c.args.heap.now (units_of c.args.heap.now.opening.layout) in
    let low = place_inside c.args.seats.items c.loop-seat.yielded c.loop-seat.seat-iterator.rest.items _ c.in-Some.seat
    (units_of c.args.heap.now.opening.layout) i.seats c.in-Some.ensures.steps.0 units in
    let found = c.requires.many in
    let same = ap units_of c.requires.layout in
    let f = found_at c.args.layout c.args.heap.now.opening.words c.args.found.now c.len-unit.result c.index-found-unit.result
    c.requires.found (omega (arith, many, here, low, found, same, c.loop-seat.regions.ok.0)) c.index-found-unit.is in
    c.as_slice-lost.ensures ∙ f.lost

pub push_reserved-requires : goal.push_reserved-requires
push_reserved-requires c =
    has_place c.loop-seat.regions.items _ _ c.in-Some.seat (vec_len c.loop-seat.regions) _ c.in-Some.ensures.steps.0
    (omega (arith, c.loop-seat.regions.ok.0)) c.loop-seat.invariant.room

pub loop-seat-preserved : goal.loop-seat-preserved
loop-seat-preserved c =
    let i = c.loop-seat.invariant in
    let next = c.in-Some.ensures.steps.0 in
    let old = c.loop-seat.regions.items in
    let new = c.push_reserved.new.self.items in
    let region = c.in_ok-region.region in
    let push = c.push_reserved.ensures.items in
    let here : c.len-unit.result ≡ length old = omega (arith, c.len-unit.ensures, c.loop-seat.regions.ok.0) in
    record {
      seats = one_more_passed c.args.seats.items c.loop-seat.yielded _ _ c.in-Some.seat i.seats next;
      many = as_many old new region c.loop-seat.yielded c.in-Some.seat push i.many;
      room = has_room old new region _ _ c.in-Some.seat _ _ push next c.push_reserved.ensures.capacity i.room;
      each = subst (EachAt (IsRegionOpened c.args.heap.now)) (sym push)
          (each_push (IsRegionOpened c.args.heap.now) old region i.each
          (subst (λ (k : ℕ). IsRegionOpened c.args.heap.now k region) here c.in_ok-region.ensures));
    }

pub returns : goal.returns
returns c =
    let i = c.loop-seat.invariant in
    let none : length c.loop-seat.seat-iterator.rest.items ≡ 0 = omega (arith, c.in-None.ensures.steps.0) in
    let passed = none_left c.args.seats.items c.loop-seat.yielded c.loop-seat.seat-iterator.rest.items i.seats none in
    record {
      many = i.many ∙ (ap length passed ∙ (ap length c.requires.seats
          ∙ units_many c.args.heap.now (units_of c.args.heap.now.opening.layout)));
      opened = i.each;
    }
