use Rattle.std.proofs.Common.{◌≡◌, Bool, false, length, ap, subst, arith}
use Rattle.heap.specs.GateAsked.{IsAskedOften}
use Rattle.write_back.proofs.Asking.{asked_more}
use Rattle.found_regions.proofs.FoundRegions.{region_swept, region_cut}
use Rattle.recover.proofs.Turns.{one_less, none_lost, cut_keeps, asks_none, as_err}
use Rattle.recover.proofs.lost_slots.close_lost.Goals as goal

pub loop-turn-init : goal.loop-turn-init
loop-turn-init g c = record {
  gate = asks_none g.G.Gate.cuts g.G.Gate.endless c.args.gate.now;
  found = c.requires.found;
  many = c.lost-many.ensures;
  left = let all = c.lost-many.ensures in omega (arith, all);
}

pub sweep_one-requires-clause-heap : goal.sweep_one-requires-clause-heap
sweep_one-requires-clause-heap g c = c.loop-turn.invariant.found.of_heap

pub sweep_one-requires-clause-agrees : goal.sweep_one-requires-clause-agrees
sweep_one-requires-clause-agrees g c = c.loop-turn.invariant.found.agrees

pub sweep_one-requires-clause-running : goal.sweep_one-requires-clause-running
sweep_one-requires-clause-running g c = c.loop-turn.invariant.found.running

pub sweep_one-requires-clause-stage : goal.sweep_one-requires-clause-stage
sweep_one-requires-clause-stage g c = c.loop-turn.invariant.found.sweeps

pub loop-turn-preserved : goal.loop-turn-preserved
loop-turn-preserved g c =
    let i = c.loop-turn.invariant in
    let e = c.in_ok-sweep_one.ensures in record {
      gate = asked_more g.G.Gate.cuts g.G.Gate.endless c.args.gate.now c.loop-turn.gate c.sweep_one.new.gate false i.gate e.gate;
      found = region_swept _ _ c.loop-turn.region i.found c.sweep_one.new.self e.swept e.agrees e.stage;
      many = i.many;
      left = one_less c.loop-turn.region c.sweep_one.new.self c.loop-turn._turn c.lost-many.result e.swept i.left
          (let low = c.loop-turn-test.true in omega (arith, low));
    }

pub returns-in_err-sweep_one-clause-gate : goal.returns-in_err-sweep_one-clause-gate
returns-in_err-sweep_one-clause-gate g c =
    subst (λ (t : Bool). IsAskedOften g.G.Gate.cuts g.G.Gate.endless c.args.gate.now c.sweep_one.new.gate t)
    (as_err _ c.from_residual.result c.from_residual.ensures.1)
    (asked_more g.G.Gate.cuts g.G.Gate.endless c.args.gate.now c.loop-turn.gate c.sweep_one.new.gate _ c.loop-turn.invariant.gate
    c.in_err-sweep_one.ensures.gate)

pub returns-in_err-sweep_one-clause-found : goal.returns-in_err-sweep_one-clause-found
returns-in_err-sweep_one-clause-found g c =
    let e = c.in_err-sweep_one.ensures in
    region_cut _ _ c.loop-turn.region c.loop-turn.invariant.found c.sweep_one.new.self e.cut e.agrees e.stage

pub returns-in_err-sweep_one-clause-fewer : goal.returns-in_err-sweep_one-clause-fewer
returns-in_err-sweep_one-clause-fewer g c =
    let i = c.loop-turn.invariant in
    let same : length c.sweep_one.new.self.books.lost ≡ length c.loop-turn.region.books.lost =
    ap length (cut_keeps c.loop-turn.region c.sweep_one.new.self c.in_err-sweep_one.ensures.cut) in
    let left = i.left in
    let many = i.many in
    omega (arith, same, left, many)

pub returns-clause-fewer : goal.returns-clause-fewer
returns-clause-fewer g c =
    let left = c.loop-turn.invariant.left in let many = c.loop-turn.invariant.many in omega (arith, left, many)

pub returns-clause-found : goal.returns-clause-found
returns-clause-found g c = c.loop-turn.invariant.found

pub returns-clause-none : goal.returns-clause-none
returns-clause-none g c =
    none_lost _ c.loop-turn._turn c.lost-many.result c.loop-turn.invariant.left (let end = c.loop-turn-test.false in omega (arith, end))
