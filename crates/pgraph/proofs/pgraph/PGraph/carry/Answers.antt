use Rattle.std.proofs.Common.{◌≡◌, List, sym, ap, ◌∙◌, subst}
use Rattle.mont_base.specs.declared.record.Change.{Change}
use Rattle.mont_laws.specs.Effects.{IsOpOf}
use Rattle.slots.specs.Books.{RegionShown}
use Rattle.structure_call.specs.Carrying.{HasCarried}
use Rattle.structure_call.specs.Planning.{IsPlan}
use Rattle.structure_call.proofs.AnsweredSince.{answered_since}
use Rattle.pgraph.specs.GraphCall.{HasNode, record_at, restored}
use Rattle.pgraph.specs.GraphEdit.{changes_of, effects_of, nodes_behind}
use Rattle.pgraph.specs.GraphIndex.{Nodes}
use Rattle.pgraph.specs.PGraph.{PGraphShown, IsGraphUnit}
use Rattle.pgraph.proofs.GraphBehind.{has_node}
use Rattle.pgraph.proofs.GraphCalls.{IsCalled, is_called, answer_planned, planned, unit_uncarried, unit_behind, index_restored, may_be_called, leaves_at_end, leaves_uncarried}
use Rattle.pgraph.proofs.NodeFacts.{edit_live}
use Rattle.pgraph.proofs.RemovalNumbers.{at_exit}
use Rattle.pgraph.proofs.pgraph.PGraph.carry.Given.{Over}
use Rattle.pgraph.proofs.pgraph.PGraph.carry.Goals as goal
use Rattle.pgraph.proofs.pgraph.PGraph.carry.Goals.{After-check_edit, After-carry_out}

-- ---- when nothing changes
pub answer-requires-clause-plan : goal.answer-requires-clause-plan
answer-requires-clause-plan g c = answer_planned c.args.heap.now c.args.self.now.region c.self.inside.region c.self.inside.index
    c.requires.stands (ap (λ (u : PGraphShown). u.region) c.self.view_is) c.self.invariant c.args.op.now c.requires.op
    c.plan-reply.result.reply c.plan-reply.ensures.reply
    (sym (ap (effects_of c.self.inside.index) c.in-Keep.is) ∙ c.plan-reply.ensures.effects)

-- ---- when the unit runs
same : (g : Over) (c : After-check_edit g) → c.check_running.new.region ≡ c.args.self.now.region
same g c = c.in_ok-check_running.ensures.ok.1 ∙ ap (λ (u : PGraphShown). u.region) c.self.view_is

called : (g : Over) (c : After-check_edit g) → IsCalled c.args.heap.now c.check_running.new.region c.self.inside.index
called g c = is_called c.args.heap.now c.args.self.now.region c.self.inside.region c.check_running.new.region c.self.inside.index
    c.requires.stands (ap (λ (u : PGraphShown). u.region) c.self.view_is) c.self.invariant c.in_ok-check_running.ensures.ok.0
    c.in_ok-check_running.ensures.ok.1

plan : (g : Over) (c : After-check_edit g) → IsPlan c.check_running.new.region c.args.op.now c.plan-reply.result.reply
    (changes_of c.self.inside.index c.plan-reply.result.edit)
plan g c = planned c.args.heap.now c.check_running.new.region c.check_running.new.region c.self.inside.index (called g c) c.args.op.now
    (subst (λ (r : RegionShown). IsOpOf c.args.heap.now.opening.layout r.books.unit c.args.op.now) (sym (same g c)) c.requires.op)
    c.plan-reply.result.reply c.plan-reply.result.edit c.plan-reply.ensures.reply c.plan-reply.ensures.effects c.plan-reply.ensures.fits

pub check_edit-requires-clause-named : goal.check_edit-requires-clause-named
check_edit-requires-clause-named g c =
    let k = is_called c.args.heap.now c.args.self.now.region c.self.inside.region c.check_running.new.region c.self.inside.index
    c.requires.stands (ap (λ (u : PGraphShown). u.region) c.self.view_is) c.self.invariant c.in_ok-check_running.ensures.ok.0
    c.in_ok-check_running.ensures.ok.1 in
    edit_live c.check_running.new.region.seat.known.part.records c.self.inside.index (k.unit.indexed k.running)
    c.check_running.new.region.books c.plan-reply.result.edit c.plan-reply.ensures.fits

-- ---- a number at its end
pub returns-in_err-check_edit-clause-refused : goal.returns-in_err-check_edit-clause-refused
returns-in_err-check_edit-clause-refused g c =
    let p = (goal.at.returns-in_err-check_edit-clause-refused g c).After-check_edit in
    at_exit c.from_residual-in_err-check_edit.result c.in_err-check_edit.field-0.0 _ c.from_residual-in_err-check_edit.ensures.1
    (leaves_at_end c.args.heap.now c.args.self.now.region c.check_running.new.region c.args.pass.now.ticket
    c.check_running.new.pass.ticket c.args.op.now c.plan-reply.result.reply (changes_of c.self.inside.index c.plan-reply.result.edit)
    (same g p) c.in_ok-check_running.ensures.ok.2 (plan g p) c.check_edit.new.region c.check_edit.new.pass.ticket
    (called g p).running c.in_err-check_edit.field-0.0 c.in_err-check_edit.ensures.ends)

-- ---- checked
pub returns-in_err-take_memory-clause-checked : goal.returns-in_err-take_memory-clause-checked
returns-in_err-take_memory-clause-checked g c =
    let p = (goal.at.returns-in_err-take_memory-clause-checked g c).After-check_edit in
    λ _. may_be_called c.args.heap.now c.args.self.now.region c.check_running.new.region c.args.pass.now.ticket
    c.check_running.new.pass.ticket c.args.op.now c.plan-reply.result.reply (changes_of c.self.inside.index c.plan-reply.result.edit)
    (same g p) c.in_ok-check_running.ensures.ok.2 (plan g p) (called g p).running c.in_ok-check_edit.ensures.ok.0

pub returns-in-Ok-clause-checked : goal.returns-in-Ok-clause-checked
returns-in-Ok-clause-checked g c =
    let p = (goal.at.returns-in-Ok-clause-checked g c).After-check_edit in
    λ _. may_be_called c.args.heap.now c.args.self.now.region c.check_running.new.region c.args.pass.now.ticket
    c.check_running.new.pass.ticket c.args.op.now c.plan-reply.result.reply (changes_of c.self.inside.index c.plan-reply.result.edit)
    (same g p) c.in_ok-check_running.ensures.ok.2 (plan g p) (called g p).running c.in_ok-check_edit.ensures.ok.0

pub returns-in-Err-clause-checked : goal.returns-in-Err-clause-checked
returns-in-Err-clause-checked g c =
    let p = (goal.at.returns-in-Err-clause-checked g c).After-check_edit in
    λ _. may_be_called c.args.heap.now c.args.self.now.region c.check_running.new.region c.args.pass.now.ticket
    c.check_running.new.pass.ticket c.args.op.now c.plan-reply.result.reply (changes_of c.self.inside.index c.plan-reply.result.edit)
    (same g p) c.in_ok-check_running.ensures.ok.2 (plan g p) (called g p).running c.in_ok-check_edit.ensures.ok.0

-- ---- the steps
listed : (g : Over) (c : After-carry_out g) → c.deref.result.now ≡ changes_of c.self.inside.index c.plan-reply.result.edit
listed g c = c.deref.ensures.value ∙ c.in_ok-take_memory.ensures.changes

checked : (g : Over) (c : After-carry_out g) → IsCalled c.args.heap.now c.check_edit.new.region c.self.inside.index
checked g c = is_called c.args.heap.now c.args.self.now.region c.self.inside.region c.check_edit.new.region c.self.inside.index
    c.requires.stands (ap (λ (u : PGraphShown). u.region) c.self.view_is) c.self.invariant c.in_ok-check_running.ensures.ok.0
    (c.in_ok-check_edit.ensures.ok.1 ∙ c.in_ok-check_running.ensures.ok.1)

pub carry_out-requires-clause-plan : goal.carry_out-requires-clause-plan
carry_out-requires-clause-plan g c =
    let list = c.deref.ensures.value ∙ c.in_ok-take_memory.ensures.changes in
    subst (λ (x : RegionShown × List Change). IsPlan x.0 c.args.op.now c.plan-reply.result.reply x.1)
    (λ i. (sym c.in_ok-check_edit.ensures.ok.1 i, sym list i))
    (plan g (goal.at.carry_out-requires-clause-plan g c).After-check_edit)

pub follow-requires-clause-there : goal.follow-requires-clause-there
follow-requires-clause-there g c =
    subst (λ (n : Nodes). HasNode n c.plan-reply.result.edit) (sym c.in_ok-take_memory.ensures.index)
    (has_node c.self.inside.index c.plan-reply.result.edit c.plan-reply.ensures.fits)

pub take_back-requires : goal.take_back-requires
take_back-requires g c =
    subst (λ (n : Nodes). HasNode n c.plan-reply.result.edit) (sym c.in_ok-take_memory.ensures.index)
    (has_node c.self.inside.index c.plan-reply.result.edit c.plan-reply.ensures.fits)

-- ---- answered
pub invariant_of-self-in-Ok : goal.invariant_of-self-in-Ok
invariant_of-self-in-Ok g c =
    let s = (goal.at.invariant_of-self-in-Ok g c).After-carry_out in
    subst (IsGraphUnit c.carry_out.new.region)
    (sym (c.follow.ensures ∙ ap (λ (n : Nodes). nodes_behind n c.plan-reply.result.edit
    (record_at c.carry_out.new.region c.in-Ok.slot))
    c.in_ok-take_memory.ensures.index))
    (unit_behind c.args.heap.now c.check_edit.new.region c.carry_out.new.region c.self.inside.index (checked g s)
    c.take_memory.new.pass.ticket c.carry_out.new.pass.ticket c.args.op.now
    c.in-Ok.ensures.carried.receipt c.in-Ok.ensures.carried.holds.answered
    c.plan-reply.result.edit c.plan-reply.ensures.state c.plan-reply.ensures.fits c.in-Ok.slot
    (subst (λ (cs : List Change). HasCarried c.check_edit.new.region c.carry_out.new.region cs c.in-Ok.ensures.carried.receipt c.in-Ok.slot)
    (listed g s) c.in-Ok.ensures.carried.holds.carried))

pub returns-in-Ok-clause-unit : goal.returns-in-Ok-clause-unit
returns-in-Ok-clause-unit g c =
    let s = (goal.at.returns-in-Ok-clause-unit g c).After-carry_out in
    subst (IsGraphUnit c.carry_out.new.region)
    (sym (c.follow.ensures ∙ ap (λ (n : Nodes). nodes_behind n c.plan-reply.result.edit
    (record_at c.carry_out.new.region c.in-Ok.slot))
    c.in_ok-take_memory.ensures.index))
    (unit_behind c.args.heap.now c.check_edit.new.region c.carry_out.new.region c.self.inside.index (checked g s)
    c.take_memory.new.pass.ticket c.carry_out.new.pass.ticket c.args.op.now
    c.in-Ok.ensures.carried.receipt c.in-Ok.ensures.carried.holds.answered
    c.plan-reply.result.edit c.plan-reply.ensures.state c.plan-reply.ensures.fits c.in-Ok.slot
    (subst (λ (cs : List Change). HasCarried c.check_edit.new.region c.carry_out.new.region cs c.in-Ok.ensures.carried.receipt c.in-Ok.slot)
    (listed g s) c.in-Ok.ensures.carried.holds.carried))

-- ---- full or cut
pub returns-in-Err-clause-refused : goal.returns-in-Err-clause-refused
returns-in-Err-clause-refused g c =
    let p = (goal.at.returns-in-Err-clause-refused g c).After-check_edit in
    let s = (goal.at.returns-in-Err-clause-refused g c).After-carry_out in
    leaves_uncarried c.args.heap.now c.args.self.now.region c.check_running.new.region c.args.pass.now.ticket
    c.check_running.new.pass.ticket c.args.op.now c.plan-reply.result.reply (changes_of c.self.inside.index c.plan-reply.result.edit)
    (same g p) c.in_ok-check_running.ensures.ok.2 (plan g p) c.carry_out.new.region c.carry_out.new.pass.ticket c.check_edit.new.region
    c.in_ok-check_edit.ensures.ok.1 c.take_memory.new.pass.ticket
    (c.in_ok-take_memory.ensures.ticket ∙ c.in_ok-check_edit.ensures.ok.2) c.deref.result.now (listed g s) c.in-Err.why
    c.in-Err.ensures.refused

pub invariant_of-self-in-Err : goal.invariant_of-self-in-Err
invariant_of-self-in-Err g c =
    let s = (goal.at.invariant_of-self-in-Err g c).After-carry_out in
    subst (IsGraphUnit c.carry_out.new.region)
    (sym (c.take_back.ensures ∙ ap (λ (n : Nodes). restored n c.plan-reply.result.edit) c.in_ok-take_memory.ensures.index
    ∙ index_restored c.args.heap.now c.check_edit.new.region c.carry_out.new.region c.self.inside.index (checked g s)
    c.plan-reply.result.edit c.plan-reply.ensures.fits))
    (unit_uncarried c.args.heap.now c.check_edit.new.region c.carry_out.new.region c.self.inside.index (checked g s)
    c.take_memory.new.pass.ticket c.carry_out.new.pass.ticket _ c.in-Err.why c.in-Err.ensures.refused)

pub returns-in-Err-clause-unit : goal.returns-in-Err-clause-unit
returns-in-Err-clause-unit g c =
    let s = (goal.at.returns-in-Err-clause-unit g c).After-carry_out in
    subst (IsGraphUnit c.carry_out.new.region)
    (sym (c.take_back.ensures ∙ ap (λ (n : Nodes). restored n c.plan-reply.result.edit) c.in_ok-take_memory.ensures.index
    ∙ index_restored c.args.heap.now c.check_edit.new.region c.carry_out.new.region c.self.inside.index (checked g s)
    c.plan-reply.result.edit c.plan-reply.ensures.fits))
    (unit_uncarried c.args.heap.now c.check_edit.new.region c.carry_out.new.region c.self.inside.index (checked g s)
    c.take_memory.new.pass.ticket c.carry_out.new.pass.ticket _ c.in-Err.why c.in-Err.ensures.refused)

-- ---- the receipt, and that the gate was asked
pub returns-in-Ok-clause-answered : goal.returns-in-Ok-clause-answered
returns-in-Ok-clause-answered g c = answered_since
    (c.in_ok-check_edit.ensures.ok.1 ∙ same g (goal.at.returns-in-Ok-clause-answered g c).After-check_edit)
    (c.in_ok-take_memory.ensures.ticket ∙ c.in_ok-check_edit.ensures.ok.2 ∙ c.in_ok-check_running.ensures.ok.2)
    (c.take_memory.ensures.receipts
    ∙ ap (λ receipts. receipts.items) (c.check_edit.ensures.receipts ∙ c.check_running.ensures.receipts))
    c.in-Ok.ensures.carried
