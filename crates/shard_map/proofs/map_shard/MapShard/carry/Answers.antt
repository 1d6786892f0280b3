use Rattle.std.proofs.Common.{◌≡◌, sym, ap, ◌∙◌, subst}
use Rattle.std.specs.Prelude.{None}
use Rattle.slots.specs.Books.{RegionShown}
use Rattle.structure_call.specs.Planning.{IsPlan}
use Rattle.structure_call.proofs.AnsweredSince.{answered_since}
use Rattle.shard_map.specs.MapShard.{MapShown}
use Rattle.shard_map.proofs.MapCalls.{IsCalled, is_called, names_live, may_be_called, leaves_at_end, room_for, unit_uncarried, unit_behind}
use Rattle.shard_map.proofs.map_shard.MapShard.carry.Goals as goal
use Rattle.shard_map.proofs.map_shard.MapShard.carry.Given.{Over}
use Rattle.shard_map.proofs.map_shard.MapShard.carry.Goals.{After-check_numbers, After-carry_out}

called : (g : Over) (c : After-carry_out g) → IsCalled c.args.heap.now c.check_numbers.new.region (g.I.Index.places c.make_room.new.index)
called g c = is_called c.args.heap.now c.args.self.now.region c.self.inside.region c.check_running.new.region c.check_numbers.new.region
    (g.I.Index.places c.self.inside.index) (g.I.Index.places c.make_room.new.index) c.requires.stands
    (ap (λ (m : MapShown). m.region) c.self.view_is) c.self.invariant c.in_ok-check_running.ensures.ok.0 c.in_ok-check_running.ensures.ok.1
    c.in_ok-check_numbers.ensures.ok.1 c.make_room.ensures.places

-- ---- the plan, after the checks
same : (g : Over) (c : After-check_numbers g) → c.check_running.new.region ≡ c.args.self.now.region
same g c = c.in_ok-check_running.ensures.ok.1 ∙ ap (λ (m : MapShown). m.region) c.self.view_is

runs : (g : Over) (c : After-check_numbers g) → c.args.self.now.region.books.halted ≡ None
runs g c = sym (ap (λ (m : MapShown). m.region.books.halted) c.self.view_is) ∙ c.in_ok-check_running.ensures.ok.0

plan : (g : Over) (c : After-check_numbers g) → IsPlan c.args.self.now.region c.args.op.now c.args.reply.now c.args.changes.now
plan g c = c.requires.plan (runs g c)

pub check_numbers-requires-clause-named : goal.check_numbers-requires-clause-named
check_numbers-requires-clause-named g c = names_live c.args.heap.now c.args.self.now.region c.check_running.new.region
    c.args.pass.now.ticket c.check_running.new.pass.ticket c.args.op.now c.args.reply.now c.args.changes.now
    (c.in_ok-check_running.ensures.ok.1 ∙ ap (λ (m : MapShown). m.region) c.self.view_is) c.in_ok-check_running.ensures.ok.2
    (c.requires.plan (sym (ap (λ (m : MapShown). m.region.books.halted) c.self.view_is) ∙ c.in_ok-check_running.ensures.ok.0))

pub returns-in_err-check_numbers-clause-refused : goal.returns-in_err-check_numbers-clause-refused
returns-in_err-check_numbers-clause-refused g c =
    let p = (goal.at.returns-in_err-check_numbers-clause-refused g c).After-check_numbers in
    leaves_at_end c.args.heap.now c.args.self.now.region c.check_running.new.region c.args.pass.now.ticket
    c.check_running.new.pass.ticket c.args.op.now c.args.reply.now c.args.changes.now (same g p) c.in_ok-check_running.ensures.ok.2
    (plan g p) c.check_numbers.new.region c.check_numbers.new.pass.ticket (runs g p)
    c.from_residual-in_err-check_numbers.result c.in_err-check_numbers.field-0.0 c.from_residual-in_err-check_numbers.ensures.1
    c.in_err-check_numbers.ensures.ends

pub returns-in_err-slot-clause-checked : goal.returns-in_err-slot-clause-checked
returns-in_err-slot-clause-checked g c =
    let p = (goal.at.returns-in_err-slot-clause-checked g c).After-check_numbers in
    λ _. may_be_called c.args.heap.now c.args.self.now.region c.check_running.new.region c.args.pass.now.ticket
    c.check_running.new.pass.ticket c.args.op.now c.args.reply.now c.args.changes.now (same g p) c.in_ok-check_running.ensures.ok.2
    (plan g p) (runs g p) c.in_ok-check_numbers.ensures.ok.0

pub returns-clause-checked : goal.returns-clause-checked
returns-clause-checked g c =
    let p = (goal.at.returns-clause-checked g c).After-check_numbers in
    λ _. may_be_called c.args.heap.now c.args.self.now.region c.check_running.new.region c.args.pass.now.ticket
    c.check_running.new.pass.ticket c.args.op.now c.args.reply.now c.args.changes.now (same g p) c.in_ok-check_running.ensures.ok.2
    (plan g p) (runs g p) c.in_ok-check_numbers.ensures.ok.0

pub invariant_of-self-in_err-slot : goal.invariant_of-self-in_err-slot
invariant_of-self-in_err-slot g c = unit_uncarried c.args.heap.now c.check_numbers.new.region c.carry_out.new.region
    (g.I.Index.places c.make_room.new.index) (called g (goal.at.invariant_of-self-in_err-slot g c).After-carry_out)
    c.make_room.new.pass.ticket c.carry_out.new.pass.ticket _ _ c.in_err-slot.ensures.refused

pub returns-in_err-slot-clause-unit : goal.returns-in_err-slot-clause-unit
returns-in_err-slot-clause-unit g c = unit_uncarried c.args.heap.now c.check_numbers.new.region c.carry_out.new.region
    (g.I.Index.places c.make_room.new.index) (called g (goal.at.returns-in_err-slot-clause-unit g c).After-carry_out)
    c.make_room.new.pass.ticket c.carry_out.new.pass.ticket _ _ c.in_err-slot.ensures.refused

-- what was planned before the numbers were checked is planned after that
planned : (g : Over) (c : After-carry_out g) → IsPlan c.check_numbers.new.region c.args.op.now c.args.reply.now c.args.changes.now
planned g c = subst (λ (r : RegionShown). IsPlan r c.args.op.now c.args.reply.now c.args.changes.now)
    (sym (c.in_ok-check_numbers.ensures.ok.1 ∙ c.in_ok-check_running.ensures.ok.1 ∙ ap (λ (m : MapShown). m.region) c.self.view_is))
    (c.requires.plan (sym (ap (λ (m : MapShown). m.region.books.halted) c.self.view_is) ∙ c.in_ok-check_running.ensures.ok.0))

pub follow-requires : goal.follow-requires
follow-requires g c =
    let k = called g (goal.at.follow-requires g c).After-carry_out in
    room_for c.check_numbers.new.region (g.I.Index.places c.make_room.new.index) k.unit k.running c.args.op.now c.args.reply.now
    c.args.changes.now (g.I.Index.spare c.make_room.new.index) (planned g (goal.at.follow-requires g c).After-carry_out)
    c.in-Ok.ensures.key

pub invariant_of-self-2 : goal.invariant_of-self-2
invariant_of-self-2 g c = rw c.follow.ensures
    (unit_behind c.args.heap.now c.check_numbers.new.region c.carry_out.new.region (g.I.Index.places c.make_room.new.index)
    (called g (goal.at.invariant_of-self-2 g c).After-carry_out) c.make_room.new.pass.ticket c.carry_out.new.pass.ticket c.args.op.now
    c.in_ok-slot.ensures.carried.receipt c.in_ok-slot.ensures.carried.holds.answered c.args.reply.now
    c.args.changes.now c.in_ok-slot.slot (planned g (goal.at.invariant_of-self-2 g c).After-carry_out)
    c.in_ok-slot.ensures.carried.holds.carried)

pub returns-clause-unit : goal.returns-clause-unit
returns-clause-unit g c = rw c.follow.ensures
    (unit_behind c.args.heap.now c.check_numbers.new.region c.carry_out.new.region (g.I.Index.places c.make_room.new.index)
    (called g (goal.at.returns-clause-unit g c).After-carry_out) c.make_room.new.pass.ticket c.carry_out.new.pass.ticket c.args.op.now
    c.in_ok-slot.ensures.carried.receipt c.in_ok-slot.ensures.carried.holds.answered c.args.reply.now
    c.args.changes.now c.in_ok-slot.slot (planned g (goal.at.returns-clause-unit g c).After-carry_out)
    c.in_ok-slot.ensures.carried.holds.carried)

-- ---- the receipt, and that the gate was asked
pub returns-clause-answered : goal.returns-clause-answered
returns-clause-answered g c = answered_since
    (c.in_ok-check_numbers.ensures.ok.1 ∙ c.in_ok-check_running.ensures.ok.1 ∙ ap (λ (m : MapShown). m.region) c.self.view_is)
    (c.make_room.ensures.ticket ∙ c.in_ok-check_numbers.ensures.ok.2 ∙ c.in_ok-check_running.ensures.ok.2)
    (c.make_room.ensures.receipts
    ∙ ap (λ receipts. receipts.items) (c.check_numbers.ensures.receipts ∙ c.check_running.ensures.receipts))
    c.in_ok-slot.ensures.carried
