use Rattle.std.proofs.Common.{ap, ◌∙◌}
use Rattle.std.specs.Prelude.{None}
use Rattle.pgraph.specs.PGraph.{PGraphShown}
use Rattle.pgraph.proofs.GraphCalls.{IsCalled, is_called, unit_answered}
use Rattle.pgraph.proofs.pgraph.PGraph.answer.Given.{Over}
use Rattle.pgraph.proofs.pgraph.PGraph.answer.Goals as goal
use Rattle.pgraph.proofs.pgraph.PGraph.answer.Goals.{After-answer}

called : (g : Over) (c : After-answer g) → IsCalled c.args.heap.now c.check_numbers.new.region c.self.inside.index
called g c = is_called c.args.heap.now c.args.self.now.region c.self.inside.region c.check_numbers.new.region c.self.inside.index
    c.requires.stands (ap (λ (u : PGraphShown). u.region) c.self.view_is) c.self.invariant c.in_ok-check_running.ensures.ok.0
    (c.in_ok-check_numbers.ensures.ok.1 ∙ c.in_ok-check_running.ensures.ok.1)

pub invariant_of-self-2 : goal.invariant_of-self-2
invariant_of-self-2 g c = unit_answered c.args.heap.now c.check_numbers.new.region c.answer.new.region c.self.inside.index
    (called g (goal.at.invariant_of-self-2 g c).After-answer) c.reserve.new.self.ticket c.answer.new.pass.ticket c.args.op.now
    c.in_ok-answer.ensures.carried.receipt None c.in_ok-answer.ensures.carried.holds.answered c.in_ok-answer.ensures.carried.holds.carried

pub returns-clause-unit : goal.returns-clause-unit
returns-clause-unit g c = unit_answered c.args.heap.now c.check_numbers.new.region c.answer.new.region c.self.inside.index
    (called g (goal.at.returns-clause-unit g c).After-answer) c.reserve.new.self.ticket c.answer.new.pass.ticket c.args.op.now
    c.in_ok-answer.ensures.carried.receipt None c.in_ok-answer.ensures.carried.holds.answered c.in_ok-answer.ensures.carried.holds.carried
