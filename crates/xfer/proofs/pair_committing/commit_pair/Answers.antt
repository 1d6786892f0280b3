use Rattle.std.proofs.Common.{ap, sym, subst, ◌∙◌}
use Rattle.core_steps.specs.CallAnswers.{CanLeave}
use Rattle.op_guard.specs.declared.guard.Guard.{Guard}
use Rattle.xfer.proofs.PairEnds.{can_leave_next, calls_behind, newest_behind}
use Rattle.xfer.proofs.pair_committing.commit_pair.Goals as goal

pub commit-requires-clause-may : goal.commit-requires-clause-may
commit-requires-clause-may g c =
    let heap = c.args.heap.now in
    let high = c.args.high.now in
    let q = c.args.pass.now.ticket in
    let r = c.commit-left.new.pass.ticket in
    let k = c.in-Ok.ensures.committed in
    let first = ap (λ (x : Guard). x.epoch) c.halves.ensures.low in
    let second = ap (λ (x : Guard). x.epoch) c.halves.ensures.high in
    let next = calls_behind heap c.args.low.now c.commit-left.new.region q r c.args.low_op.now c.args.low_reply.now
    c.halves.result.0.epoch c.in-Ok.first k in
    let newest = newest_behind heap c.args.low.now c.commit-left.new.region q r c.args.low_op.now c.args.low_reply.now
    c.halves.result.0.epoch c.in-Ok.first k in
    subst (CanLeave heap.opening.layout high.books.unit high.seat.known.part r.known.part c.args.high_op.now c.args.high_reply.now)
    (sym second)
    (can_leave_next heap.opening.layout high.books.unit high.seat.known.part q.known.part r.known.part c.args.high_op.now
    c.args.high_reply.now c.args.guard.epoch next c.requires.second (newest ∙ first) c.requires.high_may)
