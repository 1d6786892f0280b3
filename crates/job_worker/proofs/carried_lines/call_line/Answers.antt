use Rattle.std.proofs.Common.{sym, ◌∙◌, subst}
use Rattle.std.specs.Prelude.{Result, IfOk, OnErr}
use Rattle.std.specs.declared.alloc.AllocError.{AllocError}
use Rattle.job_text.specs.declared.job.Deed.TheVariants.{Call}
use Rattle.job_text.specs.declared.outcome.Outcome.{Outcome}
use Rattle.job_worker.specs.Asking.{KeepsAnswers}
use Rattle.job_worker.specs.Ending.{Ends}
use Rattle.job_worker.proofs.Waits.{ends_first, ends_second, keeps_second, ends_full_unsynced, found_full}
use Rattle.job_worker.proofs.carried_lines.call_line.Goals as goal

pub returns-then-not-is_full-clause-ends : goal.returns-then-not-is_full-clause-ends
returns-then-not-is_full-clause-ends g c =
    let o = g.S.Asks.opening c.args.store.now in
    let q = g.S.Asks.known c.args.pass.now in
    let r = g.S.Asks.known c.call-first.new.pass in
    subst (λ (v : Result Outcome AllocError). IfOk v (λ x. Ends o q r (Call c.args.op.now) x)) (sym c.call_outcome.ensures)
    (ends_first o q r c.args.op.now c.call-first.result (sym c.is_full.ensures ∙ c.if-not-is_full.true)
    c.call-first.ensures.answered c.call-first.ensures.refused)

pub returns-in-Err-clause-ends : goal.returns-in-Err-clause-ends
returns-in-Err-clause-ends g c =
    let o = g.S.Asks.opening c.args.store.now in
    let q = g.S.Asks.known c.args.pass.now in
    let m = g.S.Asks.known c.call-first.new.pass in
    let r = g.S.Asks.known c.sync.new.pass in
    let f = found_full o q m c.args.op.now c.call-first.result (sym c.is_full.ensures ∙ c.if-not-is_full.false)
    c.call-first.ensures.refused in
    subst (λ (v : Outcome). Ends o q r (Call c.args.op.now) v) (sym c.unsynced.ensures)
    (ends_full_unsynced o q m r c.args.op.now f.need f.free f.clock c.in-Err.why f.room c.sync.ensures.keeps c.in-Err.ensures.refused)

pub returns-clause-ends : goal.returns-clause-ends
returns-clause-ends g c =
    let o = g.S.Asks.opening c.args.store.now in
    let q = g.S.Asks.known c.args.pass.now in
    let m = g.S.Asks.known c.call-first.new.pass in
    let n = g.S.Asks.known c.sync.new.pass in
    let r = g.S.Asks.known c.call.new.pass in
    let f = found_full o q m c.args.op.now c.call-first.result (sym c.is_full.ensures ∙ c.if-not-is_full.false)
    c.call-first.ensures.refused in
    subst (λ (v : Result Outcome AllocError). IfOk v (λ x. Ends o q r (Call c.args.op.now) x)) (sym c.call_outcome-2.ensures)
    (ends_second o q m n r c.args.op.now c.in_default.field-0 c.call.result f c.sync.ensures.keeps
    c.in_default.ensures.synced c.call.ensures.answered c.call.ensures.refused)

pub returns-clause-keeps : goal.returns-clause-keeps
returns-clause-keeps g c =
    let o = g.S.Asks.opening c.args.store.now in
    let q = g.S.Asks.known c.args.pass.now in
    let m = g.S.Asks.known c.call-first.new.pass in
    let n = g.S.Asks.known c.sync.new.pass in
    let r = g.S.Asks.known c.call.new.pass in
    let f = found_full o q m c.args.op.now c.call-first.result (sym c.is_full.ensures ∙ c.if-not-is_full.false)
    c.call-first.ensures.refused in
    subst (λ (v : Result Outcome AllocError). OnErr v (KeepsAnswers q r)) (sym c.call_outcome-2.ensures)
    (keeps_second o q m n r c.args.op.now c.call.result f c.sync.ensures.keeps c.call.ensures.refused)
