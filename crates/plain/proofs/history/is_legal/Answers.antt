use Rattle.std.proofs.Common.{refl, arith}
use Rattle.plain.specs.States.{state_of}
use Rattle.plain.proofs.Legal.{legal_on, legal_stops, legal_end}
use Rattle.plain.proofs.history.is_legal.Goals as goal

pub returns-then-not-continues_history : goal.returns-then-not-continues_history
returns-then-not-continues_history c =
    legal_stops c.args.layout c.args.unit (state_of c.loop-entry.state) c.loop-entry.newest c.args.entries.now c.loop-entry.entry-index
    c.entry-item.result (omega arith) c.entry-item.is _ _
    c.in_ok-reply.ensures.reply c.if-not-continues_history.true c.continues_history.ensures _ c.loop-entry.invariant

pub loop-entry-preserved : goal.loop-entry-preserved
loop-entry-preserved c =
    legal_on c.args.layout c.args.unit (state_of c.loop-entry.state) c.loop-entry.newest c.args.entries.now c.loop-entry.entry-index
    c.entry-item.result (omega arith) c.entry-item.is _ _
    c.in_ok-reply.ensures.reply c.in_ok-reply.ensures.state
    (c.continues_history.ensures.0 c.if-not-continues_history.false) _ c.loop-entry.invariant

pub returns : goal.returns
returns c =
    let end =
    legal_end c.args.layout c.args.unit (state_of c.loop-entry.state) c.loop-entry.newest c.args.entries.now c.loop-entry.entry-index
    c.loop-entry-test.false in
    (λ _. c.loop-entry.invariant.0 end, λ _. refl)
