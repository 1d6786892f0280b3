use Rattle.std.proofs.Common.{[], sym, ap, ◌∙◌, subst}
use Rattle.mont_base.specs.declared.operation.Reply.{Reply}
use Rattle.structure_call.specs.Planning.{IsPlan}
use Rattle.pqueue.specs.PQueue.{PQueueShown, IsQueueUnit}
use Rattle.pqueue.specs.QueuePlan.{looked_up}
use Rattle.pqueue.proofs.QueuePlans.{of_unit_here, looked_planned}
use Rattle.pqueue.proofs.pqueue.PQueue.look.Goals as goal

pub carry-requires-clause-plan : goal.carry-requires-clause-plan
carry-requires-clause-plan g c = λ running. subst (λ (reply : Reply). IsPlan c.args.self.now.region c.args.op.now reply [])
    (sym (c.look_up-reply.ensures ∙ ap (λ (x : PQueueShown). looked_up x.items c.args.op.now) c.self.view_is))
    (looked_planned c.args.self.now.region c.args.self.now.items
    (subst (λ (x : PQueueShown). IsQueueUnit x.region x.items) c.self.view_is c.self.invariant) running
    c.args.op.now c.requires.looks
    (of_unit_here c.args.heap.now c.args.self.now.region c.args.op.now c.requires.stands.of_heap c.requires.op))
