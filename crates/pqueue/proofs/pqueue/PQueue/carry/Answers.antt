use Rattle.std.proofs.Common.{sym, ap, ◌∙◌, subst}
use Rattle.std.specs.Prelude.{option_to_list}
use Rattle.slots.specs.Books.{IsRegionOf}
use Rattle.structure_call.specs.Standing.{IsStanding}
use Rattle.structure_call.proofs.AnsweredSince.{answered_since}
use Rattle.pqueue.specs.PQueue.{PQueueShown}
use Rattle.pqueue.specs.QueuePlan.{ChangesQueue}
use Rattle.pqueue.proofs.Applies.{as_list, plan_names, uncarried_unit, answered_unit}
use Rattle.pqueue.proofs.pqueue.PQueue.carry.Goals as goal

pub check_numbers-requires-clause-named : goal.check_numbers-requires-clause-named
check_numbers-requires-clause-named g c =
    plan_names c.args.self.now.region c.check_running.new.region c.args.op.now c.args.reply.now (option_to_list c.args.change.now)
    c.as_slice-changes.result.now (c.in_ok-check_running.ensures.ok.1 ∙ ap (λ (x : PQueueShown). x.region) c.self.view_is)
    (c.requires.plan (sym (ap (λ (x : PQueueShown). x.region.books.halted) c.self.view_is) ∙ c.in_ok-check_running.ensures.ok.0))
    (as_list c.args.change.now c.as_slice-changes.result.now c.as_slice-changes.ensures)

pub invariant_of-self-in_err-slot : goal.invariant_of-self-in_err-slot
invariant_of-self-in_err-slot g c = uncarried_unit c.args.heap.now c.self.inside.region c.check_numbers.new.region
    c.carry_out.new.region _ _ _ _ c.self.inside.items.items c.make_room.new.items.items c.self.invariant
    (c.in_ok-check_numbers.ensures.ok.1 ∙ c.in_ok-check_running.ensures.ok.1)
    (subst (λ (x : PQueueShown). IsRegionOf c.args.heap.now x.region) (sym c.self.view_is) c.requires.stands.of_heap)
    c.in_ok-check_running.ensures.ok.0 c.in-Ok.ensures.items c.carry_out.ensures.stands c.carry_out.ensures.agrees
    c.in_err-slot.ensures.refused

pub returns-in_err-slot-clause-items : goal.returns-in_err-slot-clause-items
returns-in_err-slot-clause-items g c = (uncarried_unit c.args.heap.now c.self.inside.region c.check_numbers.new.region
    c.carry_out.new.region _ _ _ _ c.self.inside.items.items c.make_room.new.items.items c.self.invariant
    (c.in_ok-check_numbers.ensures.ok.1 ∙ c.in_ok-check_running.ensures.ok.1)
    (subst (λ (x : PQueueShown). IsRegionOf c.args.heap.now x.region) (sym c.self.view_is) c.requires.stands.of_heap)
    c.in_ok-check_running.ensures.ok.0 c.in-Ok.ensures.items c.carry_out.ensures.stands c.carry_out.ensures.agrees
    c.in_err-slot.ensures.refused).holds

pub invariant_of-self-2 : goal.invariant_of-self-2
invariant_of-self-2 g c = answered_unit c.args.heap.now c.self.inside.region c.carry_out.new.region
    c.self.inside.items.items c.args.change.now c.self.invariant c.in_ok-check_running.ensures.ok.0
    (subst (λ (x : PQueueShown). IsStanding c.args.heap.now x.region) (sym c.self.view_is) c.requires.stands)
    c.carry_out.ensures.stands c.carry_out.ensures.agrees c.check_running.new.region c.check_numbers.new.region _ _
    c.check_running.new.pass.ticket.known.part _
    c.in_ok-slot.ensures.carried.receipt c.in_ok-slot.slot c.as_slice-changes.result.now c.as_slice-changes.result.now
    c.make_room.new.items.items c.follow.new.items.items c.in_ok-check_running.ensures.ok.1
    (c.in_ok-check_numbers.ensures.ok.1 ∙ c.in_ok-check_running.ensures.ok.1)
    (as_list c.args.change.now c.as_slice-changes.result.now c.as_slice-changes.ensures)
    (as_list c.args.change.now c.as_slice-changes.result.now c.as_slice-changes.ensures)
    (subst (λ (x : PQueueShown). ChangesQueue x.region.books.serial x.items c.args.change.now) (sym c.self.view_is) c.requires.change)
    c.in_ok-check_numbers.ensures.ok.0
    c.in_ok-slot.ensures.carried.holds.answered c.in_ok-slot.ensures.carried.holds.carried c.in-Ok.ensures.items c.follow.ensures

pub returns-clause-items : goal.returns-clause-items
returns-clause-items g c = (answered_unit c.args.heap.now c.self.inside.region c.carry_out.new.region
    c.self.inside.items.items c.args.change.now c.self.invariant c.in_ok-check_running.ensures.ok.0
    (subst (λ (x : PQueueShown). IsStanding c.args.heap.now x.region) (sym c.self.view_is) c.requires.stands)
    c.carry_out.ensures.stands c.carry_out.ensures.agrees c.check_running.new.region c.check_numbers.new.region _ _
    c.check_running.new.pass.ticket.known.part _
    c.in_ok-slot.ensures.carried.receipt c.in_ok-slot.slot c.as_slice-changes.result.now c.as_slice-changes.result.now
    c.make_room.new.items.items c.follow.new.items.items c.in_ok-check_running.ensures.ok.1
    (c.in_ok-check_numbers.ensures.ok.1 ∙ c.in_ok-check_running.ensures.ok.1)
    (as_list c.args.change.now c.as_slice-changes.result.now c.as_slice-changes.ensures)
    (as_list c.args.change.now c.as_slice-changes.result.now c.as_slice-changes.ensures)
    (subst (λ (x : PQueueShown). ChangesQueue x.region.books.serial x.items c.args.change.now) (sym c.self.view_is) c.requires.change)
    c.in_ok-check_numbers.ensures.ok.0
    c.in_ok-slot.ensures.carried.holds.answered c.in_ok-slot.ensures.carried.holds.carried c.in-Ok.ensures.items
    c.follow.ensures).holds

-- ---- the receipt, and that the gate was asked
pub returns-clause-answered : goal.returns-clause-answered
returns-clause-answered g c = answered_since
    (c.in_ok-check_numbers.ensures.ok.1 ∙ c.in_ok-check_running.ensures.ok.1 ∙ ap (λ (x : PQueueShown). x.region) c.self.view_is)
    (c.make_room.ensures.ticket ∙ c.in_ok-check_numbers.ensures.ok.2 ∙ c.in_ok-check_running.ensures.ok.2)
    (c.make_room.ensures.receipts
    ∙ ap (λ receipts. receipts.items) (c.check_numbers.ensures.receipts ∙ c.check_running.ensures.receipts))
    c.in_ok-slot.ensures.carried
