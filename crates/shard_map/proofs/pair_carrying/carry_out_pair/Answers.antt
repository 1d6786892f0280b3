use Rattle.std.proofs.Common.{◌++◌, ◌∙◌, ap, sym, subst}
use Rattle.std.specs.Prelude.{option_to_list}
use Rattle.core_steps.specs.CallAnswers.{CanLeave}
use Rattle.heap.specs.HeapShown.{CallerShown}
use Rattle.op_guard.specs.declared.guard.Guard.{Guard}
use Rattle.xfer.specs.Pairs.{low_half, high_half}
use Rattle.xfer.proofs.PairBegins.{asked_more}
use Rattle.shard_map.proofs.PairCarried.{may_write, may_end}
use Rattle.shard_map.proofs.PairOutcomes.{of_heap_refused, unbegun_pair, cut_in_writing, ended_pair, ended_cut, kept_behind, cut_told, slot_is}
use Rattle.shard_map.proofs.pair_carrying.carry_out_pair.Goals as goal

-- ---- none was begun
pub unbegun-requires-clause-low : goal.unbegun-requires-clause-low
unbegun-requires-clause-low g c = (of_heap_refused c.args.heap.now c.args.low.now c.begin_pair.new.low c.args.high.now
    c.begin_pair.new.high c.args.pass.now.ticket c.begin_pair.new.pass.ticket c.in-Err.why c.requires.high c.in-Err.ensures.refused).0

pub unbegun-requires-clause-high : goal.unbegun-requires-clause-high
unbegun-requires-clause-high g c = (of_heap_refused c.args.heap.now c.args.low.now c.begin_pair.new.low c.args.high.now
    c.begin_pair.new.high c.args.pass.now.ticket c.begin_pair.new.pass.ticket c.in-Err.why c.requires.high c.in-Err.ensures.refused).1

pub returns-in-Err-clause-refused : goal.returns-in-Err-clause-refused
returns-in-Err-clause-refused g c = unbegun_pair c.args.heap.now c.args.low.now c.begin_pair.new.low c.args.high.now c.begin_pair.new.high
    c.args.pass.now.ticket c.begin_pair.new.pass.ticket c.unbegun.new.low c.unbegun.new.high c.unbegun.new.pass.ticket
    c.args.low_plan.now c.in-Err.why c.unbegun.result c.requires.order c.in-Err.ensures.refused c.unbegun.ensures.told

-- ---- begun
pub write_pair-requires-clause-low_may : goal.write_pair-requires-clause-low_may
write_pair-requires-clause-low_may g c = may_write c.args.heap.now c.args.low.now c.args.pass.now.ticket c.args.low_plan.now c.requires.low
    c.requires.low_plan c.requires.low_numbers c.begin_pair.new.low (low_half c.in-Ok.guard) c.in-Ok.ensures.begun.lower

pub write_pair-requires-clause-high_may : goal.write_pair-requires-clause-high_may
write_pair-requires-clause-high_may g c = may_write c.args.heap.now c.args.high.now c.args.pass.now.ticket c.args.high_plan.now
    c.requires.high c.requires.high_plan c.requires.high_numbers c.begin_pair.new.high (high_half c.in-Ok.guard)
    c.in-Ok.ensures.begun.higher

pub returns-in-Err-write_pair-clause-gate : goal.returns-in-Err-write_pair-clause-gate
returns-in-Err-write_pair-clause-gate g c = asked_more g.G.Gate.cuts g.G.Gate.endless c.args.pass.now.gate c.begin_pair.new.pass.gate
    c.write_pair.new.pass.gate _ c.in-Ok.ensures.gate c.in-Err-write_pair.ensures.gate

pub returns-in-Err-write_pair-clause-refused : goal.returns-in-Err-write_pair-clause-refused
returns-in-Err-write_pair-clause-refused g c = cut_in_writing c.args.heap.now c.args.low.now c.args.high.now c.args.pass.now.ticket
    c.in-Ok.guard c.begin_pair.new.low c.begin_pair.new.high c.in-Ok.ensures.begun c.write_pair.new.guard c.spend.result
    c.write_pair.new.low c.write_pair.new.high c.begin_pair.new.pass.ticket c.write_pair.new.pass.ticket c.in-Ok.ensures.caller
    c.spend.ensures c.in-Err-write_pair.ensures.guard c.in-Err-write_pair.ensures.cut

-- ---- written
pub commit_pair-committed-requires-clause-low_may : goal.commit_pair-committed-requires-clause-low_may
commit_pair-committed-requires-clause-low_may g c =
    let w = c.in_default.ensures.written in
    subst (λ (x : CallerShown). CanLeave c.args.heap.now.opening.layout c.write_pair.new.low.books.unit
    c.write_pair.new.low.seat.known.part x.known.part c.args.low_plan.now.op c.args.low_plan.now.reply c.write_pair.new.guard.epoch)
    (sym (c.in_default.ensures.caller ∙ c.in-Ok.ensures.caller))
    (may_end c.args.heap.now c.args.low.now c.args.pass.now.ticket c.args.low_plan.now c.requires.low c.requires.low_plan
    c.requires.low_numbers c.begin_pair.new.low (low_half c.in-Ok.guard) c.in-Ok.ensures.begun.lower c.write_pair.new.low
    (low_half c.write_pair.new.guard) w.low_slot w.lower)

pub commit_pair-committed-requires-clause-high_may : goal.commit_pair-committed-requires-clause-high_may
commit_pair-committed-requires-clause-high_may g c =
    let w = c.in_default.ensures.written in
    subst (λ (x : CallerShown). CanLeave c.args.heap.now.opening.layout c.write_pair.new.high.books.unit
    c.write_pair.new.high.seat.known.part x.known.part c.args.high_plan.now.op c.args.high_plan.now.reply c.write_pair.new.guard.epoch)
    (sym (c.in_default.ensures.caller ∙ c.in-Ok.ensures.caller))
    (may_end c.args.heap.now c.args.high.now c.args.pass.now.ticket c.args.high_plan.now c.requires.high c.requires.high_plan
    c.requires.high_numbers c.begin_pair.new.high (high_half c.in-Ok.guard) c.in-Ok.ensures.begun.higher c.write_pair.new.high
    (high_half c.write_pair.new.guard) w.high_slot w.higher)

pub returns-in-Ok-committed-clause-gate : goal.returns-in-Ok-committed-clause-gate
returns-in-Ok-committed-clause-gate g c = asked_more g.G.Gate.cuts g.G.Gate.endless c.args.pass.now.gate c.write_pair.new.pass.gate
    c.commit_pair-committed.new.pass.gate _
    (asked_more g.G.Gate.cuts g.G.Gate.endless c.args.pass.now.gate c.begin_pair.new.pass.gate c.write_pair.new.pass.gate _
    c.in-Ok.ensures.gate c.in_default.ensures.gate)
    c.in-Ok-committed.ensures.gate

pub returns-in-Ok-committed-clause-carried : goal.returns-in-Ok-committed-clause-carried
returns-in-Ok-committed-clause-carried g c =
    let heap = c.args.heap.now in
    let b = c.in-Ok.ensures.begun in
    let w = c.in_default.ensures.written in
    ended_pair heap c.args.low.now c.args.high.now c.args.pass.now.ticket c.in-Ok.guard c.begin_pair.new.low c.begin_pair.new.high b
    c.write_pair.new.low c.write_pair.new.high c.write_pair.new.guard c.args.low_plan.now.change c.args.high_plan.now.change w
    c.args.low_plan.now c.args.high_plan.now (λ i. c.args.low_plan.now.change) (λ i. c.args.high_plan.now.change) c.requires.low
    c.requires.high c.requires.low_plan c.requires.high_plan c.requires.low_numbers c.requires.high_numbers c.requires.second
    c.commit_pair-committed.new.low c.commit_pair-committed.new.high c.write_pair.new.pass.ticket
    c.commit_pair-committed.new.pass.ticket c.in-Ok-committed.receipts c.slot_first-low_slot.result c.slot_first-high_slot.result
    c.carried.result (c.in_default.ensures.caller ∙ c.in-Ok.ensures.caller)
    (c.slot_first-low_slot.ensures
    ∙ slot_is heap c.begin_pair.new.low c.write_pair.new.low (low_half c.in-Ok.guard) (low_half c.write_pair.new.guard)
    c.args.low_plan.now.change w.low_slot b.lower.begun.under_way (ap (λ (x : Guard). x.written) b.lower.begun.guard_is) w.lower)
    (c.slot_first-high_slot.ensures
    ∙ slot_is heap c.begin_pair.new.high c.write_pair.new.high (high_half c.in-Ok.guard) (high_half c.write_pair.new.guard)
    c.args.high_plan.now.change w.high_slot b.higher.begun.under_way (ap (λ (x : Guard). x.written) b.higher.begun.guard_is) w.higher)
    c.carried.ensures c.in-Ok-committed.ensures.committed

pub returns-in-Err-committed-clause-gate : goal.returns-in-Err-committed-clause-gate
returns-in-Err-committed-clause-gate g c =
    rw (cut_told _ c.in-Err-committed.cut.first c.unit.result c.unit-in-Err-committed.result c.slot_first-low_slot.result
    c.cut_behind.result
    c.cut_behind.ensures)
    (asked_more g.G.Gate.cuts g.G.Gate.endless c.args.pass.now.gate c.write_pair.new.pass.gate c.commit_pair-committed.new.pass.gate _
    (asked_more g.G.Gate.cuts g.G.Gate.endless c.args.pass.now.gate c.begin_pair.new.pass.gate c.write_pair.new.pass.gate _
    c.in-Ok.ensures.gate c.in_default.ensures.gate)
    c.in-Err-committed.ensures.gate)

pub returns-in-Err-committed-clause-kept : goal.returns-in-Err-committed-clause-kept
returns-in-Err-committed-clause-kept g c =
    rw (kept_behind c.in-Err-committed.cut.first c.unit.result c.unit-in-Err-committed.result c.slot_first-low_slot.result
    c.cut_behind.result c.cut_behind.ensures)
    (c.in-Err-committed.ensures.kept
    ∙ ap (λ receipts. receipts.items ++ option_to_list c.in-Err-committed.cut.first)
    (c.in_default.ensures.receipts ∙ c.in-Ok.ensures.receipts))

pub returns-in-Err-committed-clause-refused : goal.returns-in-Err-committed-clause-refused
returns-in-Err-committed-clause-refused g c =
    let heap = c.args.heap.now in
    let b = c.in-Ok.ensures.begun in
    let w = c.in_default.ensures.written in
    ended_cut heap c.args.low.now c.args.high.now c.args.pass.now.ticket c.in-Ok.guard c.begin_pair.new.low c.begin_pair.new.high b
    c.write_pair.new.low c.write_pair.new.high c.write_pair.new.guard c.args.low_plan.now.change c.args.high_plan.now.change w
    c.args.low_plan.now c.args.high_plan.now (λ i. c.args.low_plan.now.change) (λ i. c.args.high_plan.now.change) c.requires.low
    c.requires.high c.requires.low_plan c.requires.high_plan c.requires.low_numbers c.requires.high_numbers c.requires.second
    c.in-Err-committed.cut.first c.commit_pair-committed.new.low c.commit_pair-committed.new.high c.write_pair.new.pass.ticket
    c.commit_pair-committed.new.pass.ticket c.slot_first-low_slot.result c.unit.result c.unit-in-Err-committed.result c.cut_behind.result
    (c.in_default.ensures.caller ∙ c.in-Ok.ensures.caller)
    (c.slot_first-low_slot.ensures
    ∙ slot_is heap c.begin_pair.new.low c.write_pair.new.low (low_half c.in-Ok.guard) (low_half c.write_pair.new.guard)
    c.args.low_plan.now.change w.low_slot b.lower.begun.under_way (ap (λ (x : Guard). x.written) b.lower.begun.guard_is) w.lower)
    c.unit.ensures c.unit-in-Err-committed.ensures c.cut_behind.ensures c.in-Err-committed.ensures.cut
