use Rattle.std.proofs.Common.{ap, ◌∙◌}
use Rattle.pgraph.specs.PGraph.{PGraphShown}
use Rattle.pgraph.proofs.GraphCalls.{answer_planned}
use Rattle.pgraph.proofs.GraphPlans.{look_step}
use Rattle.pgraph.proofs.pgraph.PGraph.perform.Goals as goal

pub answer-requires-clause-plan : goal.answer-requires-clause-plan
answer-requires-clause-plan g c =
    let looked = look_step c.self.inside.index c.args.op.now c.in_default.not-AddV c.in_default.not-DelV c.in_default.not-AddE
    c.in_default.not-DelE in
    answer_planned c.args.heap.now c.args.self.now.region c.self.inside.region c.self.inside.index c.requires.stands
    (ap (λ (u : PGraphShown). u.region) c.self.view_is) c.self.invariant c.args.op.now c.requires.op c.look_up-reply.result
    (c.look_up-reply.ensures ∙ looked.reply) looked.effects
