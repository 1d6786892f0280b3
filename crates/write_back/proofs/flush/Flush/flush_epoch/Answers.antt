use Rattle.std.proofs.Common.{rules, ℕ, false, ap, refl, sym, subst}
use Rattle.std.proofs.lemmas.Result.{err_from_is_err_and}
use Rattle.heap.specs.HeapShown.{AdvShown}
use Rattle.write_back.specs.AskedSteps.{AsksEachStep}
use Rattle.write_back.proofs.AskedTimes.{asks_then}
use Rattle.write_back.proofs.flush.Flush.flush_epoch.Goals.{then-take+in_ok-flush_list, else-take}
use Rattle.write_back.proofs.flush.Flush.flush_epoch.Goals as goal

pub returns-in_err-flush_list-clause-asked : goal.returns-in_err-flush_list-clause-asked
returns-in_err-flush_list-clause-asked g c =
    let p = err_from_is_err_and c.from_residual.result c.from_residual.ensures.1 in
    rw p.1 (asks_then g.G.Gate.asked _ _ _ _ _ _ _ _ _ c.take.ensures.steps refl c.loop-unit.invariant.asked
    c.in_err-flush_list.ensures.asked)

pub loop-unit-preserved : goal.loop-unit-preserved
loop-unit-preserved g c = record {
  unit = search rules;
  gate = search rules;
  asked = elim c.if-take.branch [
    | then-take+in_ok-flush_list w ↦
        subst (λ (z : AdvShown × g.row.G.Denot). AsksEachStep g.G.Gate.asked c.args.seat.now.known.steps z.0.known.steps c.args.gate.now z.1 false)
        (λ i. (sym w.seat-is i, sym w.gate-is i))
        (asks_then g.G.Gate.asked _ _ _ _ _ _ _ _ _ c.take.ensures.steps w.give.ensures.steps c.loop-unit.invariant.asked
        w.in_ok-flush_list.ensures.asked)
    | else-take w ↦
        subst (λ (z : AdvShown × g.row.G.Denot). AsksEachStep g.G.Gate.asked c.args.seat.now.known.steps z.0.known.steps c.args.gate.now z.1 false)
        (λ i. (sym w.seat-is i, sym w.gate-is i))
        (subst (λ (n : ℕ). AsksEachStep g.G.Gate.asked c.args.seat.now.known.steps n c.args.gate.now c.loop-unit.gate false)
        (sym c.take.ensures.steps) c.loop-unit.invariant.asked)
  ];
  stands = search rules;
  stays = search rules;
}
