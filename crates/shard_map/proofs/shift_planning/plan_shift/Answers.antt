use Rattle.std.proofs.Common.{◌≡◌, [], ◌∷◌, ap, sym, ◌∙◌, subst}
use Rattle.std.specs.Prelude.{None}
use Rattle.std.proofs.lemmas.Result.{err_from_is_err_and}
use Rattle.slots.specs.Books.{RegionShown}
use Rattle.shard_map.specs.MapShard.{MapShown}
use Rattle.shard_map.specs.MapShift.{ArePlanned, end_of_pair}
use Rattle.shard_map.specs.PairCarrying.{IsPlanned}
use Rattle.shard_map.proofs.MapCalls.{no_serial}
use Rattle.shard_map.proofs.MapShifts.{cannot_move, planned_both, planned_live}
use Rattle.shard_map.proofs.shift_planning.plan_shift.Goals as goal
use Rattle.shard_map.proofs.shift_planning.plan_shift.Given.{Over}
use Rattle.shard_map.proofs.shift_planning.plan_shift.Goals.{After-end_of_pair}

-- a unit that runs, as its contract shows it
runs : (m n : MapShown) → m ≡ n → m.region.books.halted ≡ None → n.region.books.halted ≡ None
runs m n same running = subst (λ (x : MapShown). x.region.books.halted ≡ None) same running

-- ---- refused
pub returns-in_err-less-clause-refused : goal.returns-in_err-less-clause-refused
returns-in_err-less-clause-refused g c =
    let p = err_from_is_err_and c.from_residual-in_err-less.result c.from_residual-in_err-less.ensures.1 in
    rw (p.1, p.2) (cannot_move c.args.up c.args.low.now.region c.args.high.now.region c.args.from.now c.args.to.now c.args.amount
    (runs _ _ c.low.view_is c.in_ok-check_marks.ensures.ok.0) (runs _ _ c.high.view_is c.in_ok-check_marks.ensures.ok.1)
    c.in_order-low_key.result c.find-low_found.result c.find-high_found.result c.value_of.result c.value_of-2.result c.in_order-out.result
    c.in_order-low_key.ensures c.value_of.ensures c.value_of-2.ensures c.in_order-out.ensures
    c.args.ticket.now.known.part c.in_err-less.field-0.0 c.find-low_found.ensures.value c.find-high_found.ensures.value
    c.in_err-less.ensures.cannot)

-- ---- planned
pub end_of_pair-requires-clause-low : goal.end_of_pair-requires-clause-low
end_of_pair-requires-clause-low g c = (
  c.low.invariant.agrees,
  planned_live c.low.inside.region c.put_planned-low_plan.result
      (subst (λ (r : RegionShown). IsPlanned r c.put_planned-low_plan.result) (sym (ap (λ (m : MapShown). m.region) c.low.view_is))
      c.put_planned-low_plan.ensures.planned),
)

pub end_of_pair-requires-clause-low_serial : goal.end_of_pair-requires-clause-low_serial
end_of_pair-requires-clause-low_serial g c = no_serial c.low.inside.region.books.layout c.low.inside.region.books.unit
    (c.put_planned-low_plan.result.change ∷ []) c.low.invariant.kind

pub end_of_pair-requires-clause-high_serial : goal.end_of_pair-requires-clause-high_serial
end_of_pair-requires-clause-high_serial g c = no_serial c.high.inside.region.books.layout c.high.inside.region.books.unit
    (c.put_planned-high_plan.result.change ∷ []) c.high.invariant.kind

planned : (g : Over) (c : After-end_of_pair g) → ArePlanned c.args.up c.args.low.now.region c.args.high.now.region c.args.from.now
    c.args.to.now c.args.amount c.put_planned-low_plan.result c.put_planned-high_plan.result
planned g c =
    planned_both c.args.up c.args.low.now.region c.args.high.now.region c.args.from.now c.args.to.now c.args.amount
    (runs _ _ c.low.view_is c.in_ok-check_marks.ensures.ok.0) (runs _ _ c.high.view_is c.in_ok-check_marks.ensures.ok.1)
    c.in_order-low_key.result c.find-low_found.result c.find-high_found.result c.value_of.result c.value_of-2.result
    c.in_order-out.result c.in_order-low_key.ensures c.value_of.ensures c.value_of-2.ensures c.in_order-out.ensures
    c.in_ok-less.less c.in_ok-less.more c.in_order-low_number.result c.put_planned-low_plan.result c.put_planned-high_plan.result
    c.in_order-low_number.ensures c.put_planned-low_plan.ensures.is c.put_planned-high_plan.ensures.is c.in_ok-less.ensures.moved
    c.put_planned-low_plan.ensures.planned c.put_planned-high_plan.ensures.planned

ends : (g : Over) (c : After-end_of_pair g) → c.end_of_pair.result
    ≡ end_of_pair c.args.ticket.now.known.part c.args.low.now.region c.args.high.now.region c.put_planned-low_plan.result.change
    c.put_planned-high_plan.result.change
ends g c = c.end_of_pair.ensures
    ∙ (λ i. end_of_pair c.args.ticket.now.known.part (ap (λ (m : MapShown). m.region) c.low.view_is i)
    (ap (λ (m : MapShown). m.region) c.high.view_is i) c.put_planned-low_plan.result.change c.put_planned-high_plan.result.change)

pub returns-in-Some-clause-refused : goal.returns-in-Some-clause-refused
returns-in-Some-clause-refused g c =
    let d = (goal.at.returns-in-Some-clause-refused g c).After-end_of_pair in
    record {
      low_plan = c.put_planned-low_plan.result;
      high_plan = c.put_planned-high_plan.result;
      planned = planned g d;
      ends = sym (ends g d) ∙ c.in-Some.is;
    }

pub returns-in-None-clause-planned : goal.returns-in-None-clause-planned
returns-in-None-clause-planned g c =
    let d = (goal.at.returns-in-None-clause-planned g c).After-end_of_pair in
    record { planned = planned g d; none_ends = sym (ends g d) ∙ c.in-None.is }
