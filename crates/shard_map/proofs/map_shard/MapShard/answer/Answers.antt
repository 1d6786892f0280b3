use Rattle.std.proofs.Common.{refl, ap, ◌∙◌}
use Rattle.std.specs.Prelude.{None}
use Rattle.structure_call.proofs.AnsweredSince.{answered_since}
use Rattle.shard_map.specs.MapShard.{MapShown}
use Rattle.shard_map.proofs.MapCalls.{IsCalled, is_called, unit_uncarried, unit_answered}
use Rattle.shard_map.proofs.map_shard.MapShard.answer.Goals as goal
use Rattle.shard_map.proofs.map_shard.MapShard.answer.Given.{Over}
use Rattle.shard_map.proofs.map_shard.MapShard.answer.Goals.{After-answer}

called : (g : Over) (c : After-answer g) → IsCalled c.args.heap.now c.check_numbers.new.region (g.I.Index.places c.self.inside.index)
called g c = is_called c.args.heap.now c.args.self.now.region c.self.inside.region c.check_running.new.region c.check_numbers.new.region
    (g.I.Index.places c.self.inside.index) (g.I.Index.places c.self.inside.index) c.requires.stands
    (ap (λ (m : MapShown). m.region) c.self.view_is) c.self.invariant c.in_ok-check_running.ensures.ok.0 c.in_ok-check_running.ensures.ok.1
    c.in_ok-check_numbers.ensures.ok.1 refl

pub invariant_of-self-in_err-answer : goal.invariant_of-self-in_err-answer
invariant_of-self-in_err-answer g c = unit_uncarried c.args.heap.now c.check_numbers.new.region c.answer.new.region
    (g.I.Index.places c.self.inside.index) (called g (goal.at.invariant_of-self-in_err-answer g c).After-answer)
    c.reserve.new.self.ticket c.answer.new.pass.ticket _ _ c.in_err-answer.ensures.refused

pub invariant_of-self-2 : goal.invariant_of-self-2
invariant_of-self-2 g c = unit_answered c.args.heap.now c.check_numbers.new.region c.answer.new.region
    (g.I.Index.places c.self.inside.index) (called g (goal.at.invariant_of-self-2 g c).After-answer)
    c.reserve.new.self.ticket c.answer.new.pass.ticket c.args.op.now c.in_ok-answer.ensures.carried.receipt None
    c.in_ok-answer.ensures.carried.holds.answered c.in_ok-answer.ensures.carried.holds.carried

pub returns-clause-unit : goal.returns-clause-unit
returns-clause-unit g c = unit_answered c.args.heap.now c.check_numbers.new.region c.answer.new.region
    (g.I.Index.places c.self.inside.index) (called g (goal.at.returns-clause-unit g c).After-answer)
    c.reserve.new.self.ticket c.answer.new.pass.ticket c.args.op.now c.in_ok-answer.ensures.carried.receipt None
    c.in_ok-answer.ensures.carried.holds.answered c.in_ok-answer.ensures.carried.holds.carried

-- ---- the receipt, and that the gate was asked
pub returns-clause-answered : goal.returns-clause-answered
returns-clause-answered g c = answered_since
    (c.in_ok-check_numbers.ensures.ok.1 ∙ c.in_ok-check_running.ensures.ok.1 ∙ ap (λ (m : MapShown). m.region) c.self.view_is)
    (c.reserve.ensures.ticket ∙ c.in_ok-check_numbers.ensures.ok.2 ∙ c.in_ok-check_running.ensures.ok.2)
    (c.reserve.ensures.receipts
    ∙ ap (λ receipts. receipts.items) (c.check_numbers.ensures.receipts ∙ c.check_running.ensures.receipts))
    c.in_ok-answer.ensures.carried
