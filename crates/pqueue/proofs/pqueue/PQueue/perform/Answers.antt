use Rattle.std.proofs.Common.{◌≡◌, ◌∙◌, sym, subst}
use Rattle.std.specs.Prelude.{Some, slice_get}
use Rattle.pqueue.specs.PQueue.{PQueueShown, IsQueueUnit}
use Rattle.pqueue.proofs.QueuePlans.{of_unit_here, deq_planned}
use Rattle.pqueue.proofs.pqueue.PQueue.perform.Goals as goal

pub deq-requires-clause-plan : goal.deq-requires-clause-plan
deq-requires-clause-plan g c =
    let first : slice_get c.args.self.now.items 0 ≡ Some c.in-Some.first =
    subst (λ (x : PQueueShown). slice_get x.items 0 ≡ Some c.in-Some.first) c.self.view_is
    (sym c.first_of.ensures ∙ c.in-Some.is) in
    λ running. deq_planned c.args.self.now.region c.args.self.now.items
    (subst (λ (x : PQueueShown). IsQueueUnit x.region x.items) c.self.view_is c.self.invariant) running
    c.args.op.now c.in-Deq.unit c.in-Some.first c.in-Deq.is first
    (of_unit_here c.args.heap.now c.args.self.now.region c.args.op.now c.requires.stands.of_heap c.requires.op)
