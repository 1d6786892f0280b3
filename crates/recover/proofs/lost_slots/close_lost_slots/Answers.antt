use Rattle.std.proofs.Common.{◌≡◌, ℕ, Bool, false, [], length-set, refl, ◌∙◌, subst, arith}
use Rattle.std.proofs.lemmas.List.Elements.{All-nil}
use Rattle.heap.specs.GateAsked.{IsAskedOften}
use Rattle.slots.specs.Books.{RegionShown}
use Rattle.found_regions.specs.FoundRegion.{IsRegionFound}
use Rattle.recover.proofs.Turns.{fewer_lost, asks_none, as_err}
use Rattle.write_back.proofs.Asking.{asked_more}
use Rattle.recover.proofs.Indexed.{all_with_next, each_with, at_got, of_its_unit, all_taken}
use Rattle.recover.proofs.lost_slots.close_lost_slots.Goals as goal

pub loop-unit-init : goal.loop-unit-init
loop-unit-init g c = record {
  gate = asks_none g.G.Gate.cuts g.G.Gate.endless c.args.gate.now;
  many = refl;
  found = c.requires.found;
  fewer = omega arith;
  none = All-nil (λ (r : RegionShown). r.books.lost ≡ []);
}

pub close_lost-requires : goal.close_lost-requires
close_lost-requires g c =
    record {
      found = of_its_unit _ _ c.loop-unit.unit c.index-regions-unit.result (omega arith) c.index-regions-unit.is
          c.loop-unit.invariant.found;
    }

pub loop-unit-preserved : goal.loop-unit-preserved
loop-unit-preserved g c =
    let i = c.loop-unit.invariant in
    let e = c.in_ok-close_lost.ensures in
    let was = at_got _ _ c.loop-unit.unit c.index-regions-unit.result (omega arith) c.index-regions-unit.is i.found in record {
      gate = asked_more g.G.Gate.cuts g.G.Gate.endless c.args.gate.now c.loop-unit.gate c.close_lost.new.gate false i.gate e.gate;
      many = length-set c.loop-unit.regions c.loop-unit.unit c.close_lost.new.region ∙ i.many;
      found = each_with (IsRegionFound c.args.heap.now) _ c.loop-unit.unit c.close_lost.new.region i.found
          (subst (λ (u : ℕ). IsRegionFound c.args.heap.now u c.close_lost.new.region) was.of_unit e.found);
      fewer =
          let low = fewer_lost c.loop-unit.regions c.loop-unit.unit c.close_lost.new.region c.index-regions-unit.result (omega arith)
          e.fewer in
          let before = i.fewer in
          omega (arith, low, before);
      none = all_with_next (λ (r : RegionShown). r.books.lost ≡ []) _ c.loop-unit.unit c.close_lost.new.region (omega arith) i.none e.none;
    }

pub returns-in_err-close_lost-clause-gate : goal.returns-in_err-close_lost-clause-gate
returns-in_err-close_lost-clause-gate g c =
    subst (λ (t : Bool). IsAskedOften g.G.Gate.cuts g.G.Gate.endless c.args.gate.now c.close_lost.new.gate t)
    (as_err _ c.from_residual.result c.from_residual.ensures.1)
    (asked_more g.G.Gate.cuts g.G.Gate.endless c.args.gate.now c.loop-unit.gate c.close_lost.new.gate _ c.loop-unit.invariant.gate
    c.in_err-close_lost.ensures.gate)

pub returns-in_err-close_lost-clause-found : goal.returns-in_err-close_lost-clause-found
returns-in_err-close_lost-clause-found g c =
    let i = c.loop-unit.invariant in
    let e = c.in_err-close_lost.ensures in
    let was = at_got _ _ c.loop-unit.unit c.index-regions-unit.result (omega arith) c.index-regions-unit.is i.found in
    each_with (IsRegionFound c.args.heap.now) _ c.loop-unit.unit c.close_lost.new.region i.found
    (subst (λ (u : ℕ). IsRegionFound c.args.heap.now u c.close_lost.new.region) was.of_unit e.found)

pub returns-in_err-close_lost-clause-fewer : goal.returns-in_err-close_lost-clause-fewer
returns-in_err-close_lost-clause-fewer g c =
    let low = fewer_lost c.loop-unit.regions c.loop-unit.unit c.close_lost.new.region c.index-regions-unit.result (omega arith)
    c.in_err-close_lost.ensures.fewer in
    let before = c.loop-unit.invariant.fewer in
    omega (arith, low, before)

pub returns-clause-none : goal.returns-clause-none
returns-clause-none g c =
    all_taken (λ (r : RegionShown). r.books.lost ≡ []) _ c.loop-unit.unit (let end = c.loop-unit-test.false in omega (arith, end))
    c.loop-unit.invariant.none
