use Rattle.std.proofs.Common.{ℕ, List, [], ◌∷◌, sym, ap, ◌∙◌, subst}
use Rattle.mont_base.specs.declared.operation.Reply.TheVariants.{Nothing}
use Rattle.mont_base.specs.declared.record.Change.TheVariants.{Insert}
use Rattle.mont_base.specs.Bodies.{item_body}
use Rattle.structure_call.specs.Planning.{IsPlan}
use Rattle.pqueue.specs.PQueue.{PQueueShown, IsQueueUnit}
use Rattle.pqueue.proofs.QueuePlans.{of_unit_here, enq_planned}
use Rattle.pqueue.proofs.pqueue.PQueue.enq.Goals as goal

pub carry-requires-clause-plan : goal.carry-requires-clause-plan
carry-requires-clause-plan g c = λ running.
    subst (λ (body : List ℕ). IsPlan c.args.self.now.region c.args.op.now Nothing (Insert body ∷ []))
    (sym (c.item_body-body.ensures.words ∙ ap (λ (n : ℕ). item_body n c.args.item)
    (c.next_serial.ensures ∙ ap (λ (x : PQueueShown). x.region.books.serial) c.self.view_is)))
    (enq_planned c.args.self.now.region c.args.self.now.items
    (subst (λ (x : PQueueShown). IsQueueUnit x.region x.items) c.self.view_is c.self.invariant) running
    c.args.op.now c.requires.enq.0 c.args.item c.requires.enq.1
    (of_unit_here c.args.heap.now c.args.self.now.region c.args.op.now c.requires.stands.of_heap c.requires.op))
