use Rattle.std.proofs.Common.{arith}
use Rattle.std.proofs.lemmas.Result.{err_from_is_err_and}
use Rattle.caller.proofs.Waits.{waits_on, keeps_waited, keeps_heard, keeps_more, leaves_held_up}
use Rattle.caller.proofs.syncing.sync.Goals as goal

pub returns-in_err-advance_once-clause-seen : goal.returns-in_err-advance_once-clause-seen
returns-in_err-advance_once-clause-seen g c =
    let e = c.in_ok-clock.ensures in
    let late = c.if-newest-clock.false in
    let w = waits_on c.args.pass.now.ticket c.loop.pass.ticket c.seen_durable.new.ticket c.in_ok-clock.clock c.newest.result
    c.loop.invariant.waited e.ok e.clock c.newest.ensures (omega arith) in
    keeps_more c.args.pass.now.ticket c.seen_durable.new.ticket c.advance_once.new.pass.ticket
    (keeps_waited c.args.pass.now.ticket c.seen_durable.new.ticket w.0)
    (keeps_heard c.args.heap.now c.seen_durable.new.ticket c.advance_once.new.pass.ticket _ c.in_err-advance_once.ensures.refused)

pub returns-in_err-advance_once-clause-refused : goal.returns-in_err-advance_once-clause-refused
returns-in_err-advance_once-clause-refused g c =
    let e = c.in_ok-clock.ensures in
    let late = c.if-newest-clock.false in
    let w = waits_on c.args.pass.now.ticket c.loop.pass.ticket c.seen_durable.new.ticket c.in_ok-clock.clock c.newest.result
    c.loop.invariant.waited e.ok e.clock c.newest.ensures (omega arith) in
    let p = err_from_is_err_and c.from_residual-in_err-advance_once.result c.from_residual-in_err-advance_once.ensures.1 in
    rw (p.1, p.2) (leaves_held_up c.args.heap.now c.args.pass.now.ticket c.seen_durable.new.ticket c.advance_once.new.pass.ticket
    c.in_err-advance_once.field-0.0 w.0 w.1 w.2 c.in_err-advance_once.ensures.refused)
