use Rattle.std.proofs.Common.{◌∙◌}
use Rattle.std.specs.Prelude.{Err}
use Rattle.std.proofs.lemmas.Result.{err_from_is_err_and}
use Rattle.xfer.specs.PairBeginning.{was_cut}
use Rattle.xfer.proofs.PairBegins.{asked_more, cut_since, begun_since, back_since, room_still, has_learnt}
use Rattle.xfer.proofs.pair_beginning.begin_pair.Goals as goal

pub returns-in_err-guard-clause-gate : goal.returns-in_err-guard-clause-gate
returns-in_err-guard-clause-gate g c =
    let p = err_from_is_err_and c.from_residual-in_err-guard.result c.from_residual-in_err-guard.ensures.1 in
    rw (p.1, p.2) (asked_more g.G.Gate.cuts g.G.Gate.endless c.args.pass.now.gate c.loop.pass.gate c.register_both.new.pass.gate _
    c.loop.invariant.gate c.in_err-guard.ensures.gate)

pub returns-in_err-guard-clause-refused : goal.returns-in_err-guard-clause-refused
returns-in_err-guard-clause-refused g c =
    let p = err_from_is_err_and c.from_residual-in_err-guard.result c.from_residual-in_err-guard.ensures.1 in
    let i = c.loop.invariant in
    rw (p.1, p.2) (cut_since c.args.heap.now c.args.low.now c.loop.low c.register_both.new.low c.args.high.now c.loop.high
    c.register_both.new.high c.loop.pass.ticket c.args.pass.now.ticket c.register_both.new.pass.ticket c.in_err-guard.field-0.0 i.caller
    i.lower i.higher c.in_err-guard.ensures.refused)

pub returns-in-Some-2-clause-begun : goal.returns-in-Some-2-clause-begun
returns-in-Some-2-clause-begun g c =
    let i = c.loop.invariant in
    begun_since c.args.heap.now c.args.low.now c.loop.low c.register_both.new.low c.args.high.now c.loop.high c.register_both.new.high
    c.loop.pass.ticket c.args.pass.now.ticket c.in_ok-guard.field-0 c.in-Some-2.guard i.caller c.in-Some-2.is i.lower i.higher
    c.in_ok-guard.ensures.tried

pub loop-preserved : goal.loop-preserved
loop-preserved g c =
    let i = c.loop.invariant in
    let heap = c.args.heap.now in
    let q = c.args.pass.now.ticket in
    let e = c.in_ok-guard.ensures in
    let back = back_since heap c.loop.low c.register_both.new.low c.loop.high c.register_both.new.high c.loop.pass.ticket
    c.in_ok-guard.field-0 c.in_default.is e.tried in
    record {
      lower = room_still heap c.args.low.now c.loop.low c.register_both.new.low q i.lower back.lower;
      higher = room_still heap c.args.high.now c.loop.high c.register_both.new.high q i.higher back.higher;
      learnt = has_learnt c.loop.high c.register_both.new.high q back.learnt i.learnt;
      caller = e.caller ∙ i.caller;
      receipts = e.receipts ∙ i.receipts;
      gate = asked_more g.G.Gate.cuts g.G.Gate.endless c.args.pass.now.gate c.loop.pass.gate c.register_both.new.pass.gate _
          i.gate e.gate;
    }
