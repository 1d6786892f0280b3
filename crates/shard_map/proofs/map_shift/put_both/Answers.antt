use Rattle.std.proofs.Common.{◌≡◌, ap, sym, ◌∙◌, subst}
use Rattle.slots.specs.Books.{RegionShown}
use Rattle.structure_call.specs.Standing.{IsStanding}
use Rattle.structure_call.proofs.Stands.{ready_stands}
use Rattle.shard_map.specs.MapShard.{MapShown}
use Rattle.shard_map.specs.PairCarrying.{IsPlanned}
use Rattle.shard_map.proofs.MapCalls.{IsCalled}
use Rattle.shard_map.proofs.PairUnits.{called_by, high_left, low_left, room_there, stands_left, unit_carried, units_left}
use Rattle.shard_map.proofs.Shifted.{high_none}
use Rattle.shard_map.proofs.map_shift.put_both.Goals as goal
use Rattle.shard_map.proofs.map_shift.put_both.Given.{Over}
use Rattle.shard_map.proofs.map_shift.put_both.Goals.{After-carry_out_pair-carried}

-- ---- each unit before
low_shown : (g : Over) (c : After-carry_out_pair-carried g) → c.low.inside.region ≡ c.args.low.now.region
low_shown g c = ap (λ (m : MapShown). m.region) c.low.view_is

high_shown : (g : Over) (c : After-carry_out_pair-carried g) → c.high.inside.region ≡ c.args.high.now.region
high_shown g c = ap (λ (m : MapShown). m.region) c.high.view_is

low_called : (g : Over) (c : After-carry_out_pair-carried g) → IsCalled c.args.heap.now c.low.inside.region
    (g.I.Index.places c.low.inside.index)
low_called g c = called_by c.args.heap.now c.args.low.now.region c.low.inside.region (g.I.Index.places c.low.inside.index) c.requires.low
    (low_shown g c) c.low.invariant

high_called : (g : Over) (c : After-carry_out_pair-carried g) → IsCalled c.args.heap.now c.high.inside.region
    (g.J.Index.places c.high.inside.index)
high_called g c = called_by c.args.heap.now c.args.high.now.region c.high.inside.region (g.J.Index.places c.high.inside.index)
    c.requires.high (high_shown g c) c.high.invariant

low_planned : (g : Over) (c : After-carry_out_pair-carried g) → IsPlanned c.low.inside.region c.args.low_plan.now
low_planned g c = subst (λ (r : RegionShown). IsPlanned r c.args.low_plan.now) (sym (low_shown g c)) c.requires.low_plan

high_planned : (g : Over) (c : After-carry_out_pair-carried g) → IsPlanned c.high.inside.region c.args.high_plan.now
high_planned g c = subst (λ (r : RegionShown). IsPlanned r c.args.high_plan.now) (sym (high_shown g c)) c.requires.high_plan

pub carry_out_pair-carried-requires-clause-high_numbers : goal.carry_out_pair-carried-requires-clause-high_numbers
carry_out_pair-carried-requires-clause-high_numbers g c =
    rw (ap (λ (m : MapShown). m.region) c.high.view_is)
    (high_none c.args.pass.now.ticket.known.part c.args.low.now.region c.args.high.now.region c.args.low_plan.now.change
    c.args.high_plan.now.change c.requires.numbers)

-- ---- carried out
pub follow-requires : goal.follow-requires
follow-requires g c =
    let d = (goal.at.follow-requires g c).After-carry_out_pair-carried in
    room_there c.args.heap.now c.low.inside.region (g.I.Index.places c.low.inside.index) (low_called g d) c.args.low_plan.now
    (g.I.Index.spare c.low.inside.index) (low_planned g d) c.requires.there.0

pub follow-requires-in-Ok : goal.follow-requires-in-Ok
follow-requires-in-Ok g c =
    let d = (goal.at.follow-requires-in-Ok g c).After-carry_out_pair-carried in
    room_there c.args.heap.now c.high.inside.region (g.J.Index.places c.high.inside.index) (high_called g d) c.args.high_plan.now
    (g.J.Index.spare c.high.inside.index) (high_planned g d) c.requires.there.1

pub invariant_of-low : goal.invariant_of-low
invariant_of-low g c =
    let d = (goal.at.invariant_of-low g c).After-carry_out_pair-carried in
    let k = c.in-Ok.ensures.carried in
    rw c.follow.ensures
    (unit_carried c.args.heap.now c.low.inside.region c.carry_out_pair-carried.new.low (g.I.Index.places c.low.inside.index)
    (low_called g d) c.args.pass.now.ticket k.between c.args.low_plan.now c.in-Ok.both.low (low_planned g d) k.lower)

pub invariant_of-high : goal.invariant_of-high
invariant_of-high g c =
    let d = (goal.at.invariant_of-high g c).After-carry_out_pair-carried in
    let k = c.in-Ok.ensures.carried in
    rw c.follow-in-Ok.ensures
    (unit_carried c.args.heap.now c.high.inside.region c.carry_out_pair-carried.new.high (g.J.Index.places c.high.inside.index)
    (high_called g d) k.between c.carry_out_pair-carried.new.pass.ticket c.args.high_plan.now c.in-Ok.both.high (high_planned g d)
    k.higher)

pub returns-in-Ok-clause-low : goal.returns-in-Ok-clause-low
returns-in-Ok-clause-low g c =
    let d = (goal.at.returns-in-Ok-clause-low g c).After-carry_out_pair-carried in
    let k = c.in-Ok.ensures.carried in
    record {
      of_unit = k.lower.answered.of_unit ∙ ap (λ (r : RegionShown). r.books.unit) (low_shown g d);
      stands = ready_stands c.args.heap.now c.carry_out_pair-carried.new.low k.lower.answered.ready;
      unit =
          rw c.follow.ensures
          (unit_carried c.args.heap.now c.low.inside.region c.carry_out_pair-carried.new.low (g.I.Index.places c.low.inside.index)
          (low_called g d) c.args.pass.now.ticket k.between c.args.low_plan.now c.in-Ok.both.low (low_planned g d) k.lower);
    }

pub returns-in-Ok-clause-high : goal.returns-in-Ok-clause-high
returns-in-Ok-clause-high g c =
    let d = (goal.at.returns-in-Ok-clause-high g c).After-carry_out_pair-carried in
    let k = c.in-Ok.ensures.carried in
    record {
      of_unit = k.higher.answered.of_unit ∙ ap (λ (r : RegionShown). r.books.unit) (high_shown g d);
      stands = ready_stands c.args.heap.now c.carry_out_pair-carried.new.high k.higher.answered.ready;
      unit =
          rw c.follow-in-Ok.ensures
          (unit_carried c.args.heap.now c.high.inside.region c.carry_out_pair-carried.new.high (g.J.Index.places c.high.inside.index)
          (high_called g d) k.between c.carry_out_pair-carried.new.pass.ticket c.args.high_plan.now c.in-Ok.both.high
          (high_planned g d) k.higher);
    }

-- ---- not carried out
pub follow_alone-requires : goal.follow_alone-requires
follow_alone-requires g c =
    let d = (goal.at.follow_alone-requires g c).After-carry_out_pair-carried in
    room_there c.args.heap.now c.low.inside.region (g.I.Index.places c.low.inside.index) (low_called g d) c.args.low_plan.now
    (g.I.Index.spare c.low.inside.index) (low_planned g d) c.requires.there.0

pub invariant_of-low-in-Err : goal.invariant_of-low-in-Err
invariant_of-low-in-Err g c =
    let d = (goal.at.invariant_of-low-in-Err g c).After-carry_out_pair-carried in
    rw c.follow_alone.ensures
    (low_left c.args.heap.now c.low.inside.region c.carry_out_pair-carried.new.low c.high.inside.region
    c.carry_out_pair-carried.new.high (g.I.Index.places c.low.inside.index) (g.J.Index.places c.high.inside.index)
    c.args.pass.now.ticket c.carry_out_pair-carried.new.pass.ticket c.args.low_plan.now (low_called g d) (high_called g d)
    (low_planned g d) c.in-Err.why c.in-Err.ensures.refused)

pub invariant_of-high-in-Err : goal.invariant_of-high-in-Err
invariant_of-high-in-Err g c =
    let d = (goal.at.invariant_of-high-in-Err g c).After-carry_out_pair-carried in
    high_left c.args.heap.now c.low.inside.region c.carry_out_pair-carried.new.low c.high.inside.region
    c.carry_out_pair-carried.new.high (g.I.Index.places c.low.inside.index) (g.J.Index.places c.high.inside.index)
    c.args.pass.now.ticket c.carry_out_pair-carried.new.pass.ticket c.args.low_plan.now (low_called g d) (high_called g d)
    (low_planned g d) c.in-Err.why c.in-Err.ensures.refused

-- both stand, and are the same units
both_stand : (g : Over) (c : After-carry_out_pair-carried g) → IsStanding c.args.heap.now c.high.inside.region
both_stand g c = subst (IsStanding c.args.heap.now) (sym (high_shown g c))
    (ready_stands c.args.heap.now c.args.high.now.region c.requires.high)

pub returns-in-Err-clause-low : goal.returns-in-Err-clause-low
returns-in-Err-clause-low g c =
    let d = (goal.at.returns-in-Err-clause-low g c).After-carry_out_pair-carried in
    record {
      of_unit =
          (units_left c.args.heap.now c.low.inside.region c.carry_out_pair-carried.new.low c.high.inside.region
          c.carry_out_pair-carried.new.high c.args.pass.now.ticket c.carry_out_pair-carried.new.pass.ticket c.args.low_plan.now
          c.in-Err.why c.in-Err.ensures.refused).0
          ∙ ap (λ (r : RegionShown). r.books.unit) (low_shown g d);
      stands =
          (stands_left c.args.heap.now c.low.inside.region c.carry_out_pair-carried.new.low c.high.inside.region
          c.carry_out_pair-carried.new.high (g.I.Index.places c.low.inside.index) (g.J.Index.places c.high.inside.index)
          c.args.pass.now.ticket c.carry_out_pair-carried.new.pass.ticket c.args.low_plan.now (low_called g d) (high_called g d)
          (low_planned g d) c.in-Err.why (both_stand g d) c.in-Err.ensures.refused).0;
      unit =
          rw c.follow_alone.ensures
          (low_left c.args.heap.now c.low.inside.region c.carry_out_pair-carried.new.low c.high.inside.region
          c.carry_out_pair-carried.new.high (g.I.Index.places c.low.inside.index) (g.J.Index.places c.high.inside.index)
          c.args.pass.now.ticket c.carry_out_pair-carried.new.pass.ticket c.args.low_plan.now (low_called g d) (high_called g d)
          (low_planned g d) c.in-Err.why c.in-Err.ensures.refused);
    }

pub returns-in-Err-clause-high : goal.returns-in-Err-clause-high
returns-in-Err-clause-high g c =
    let d = (goal.at.returns-in-Err-clause-high g c).After-carry_out_pair-carried in
    record {
      of_unit =
          (units_left c.args.heap.now c.low.inside.region c.carry_out_pair-carried.new.low c.high.inside.region
          c.carry_out_pair-carried.new.high c.args.pass.now.ticket c.carry_out_pair-carried.new.pass.ticket c.args.low_plan.now
          c.in-Err.why c.in-Err.ensures.refused).1
          ∙ ap (λ (r : RegionShown). r.books.unit) (high_shown g d);
      stands =
          (stands_left c.args.heap.now c.low.inside.region c.carry_out_pair-carried.new.low c.high.inside.region
          c.carry_out_pair-carried.new.high (g.I.Index.places c.low.inside.index) (g.J.Index.places c.high.inside.index)
          c.args.pass.now.ticket c.carry_out_pair-carried.new.pass.ticket c.args.low_plan.now (low_called g d) (high_called g d)
          (low_planned g d) c.in-Err.why (both_stand g d) c.in-Err.ensures.refused).1;
      unit =
          high_left c.args.heap.now c.low.inside.region c.carry_out_pair-carried.new.low c.high.inside.region
          c.carry_out_pair-carried.new.high (g.I.Index.places c.low.inside.index) (g.J.Index.places c.high.inside.index)
          c.args.pass.now.ticket c.carry_out_pair-carried.new.pass.ticket c.args.low_plan.now (low_called g d) (high_called g d)
          (low_planned g d) c.in-Err.why c.in-Err.ensures.refused;
    }
