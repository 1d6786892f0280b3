use Rattle.std.proofs.Common.{◌≡◌, ℕ, List, [], ◌∷◌, ◌++◌, length, sym, ap, ◌∙◌, subst}
use Rattle.std.specs.Prelude.{Option, None}
use Rattle.std.proofs.lemmas.Result.{IfOk-at_ok}
use Rattle.mont_base.specs.declared.operation.Receipt.{Receipt}
use Rattle.mont_base.specs.declared.record.Change.{Change}
use Rattle.core_steps.specs.CallAnswers.{CanLeave}
use Rattle.heap.specs.HeapShown.{CallerShown}
use Rattle.op_guard.specs.declared.guard.Guard.{Guard}
use Rattle.op_guard.specs.Answered.{HasCommitted}
use Rattle.op_guard.specs.Guarding.{HasBegun}
use Rattle.structure_call.specs.Calling.{HasCarriedOut}
use Rattle.structure_call.specs.Carrying.{HasWrittenAll}
use Rattle.heap_pass.specs.KeptReceipt.{KeepsReceipt}
use Rattle.structure_call.specs.Planning.{IsPlan, first_at_end}
use Rattle.structure_call.proofs.CarriedOut.{may_put_all, may_leave, answered_call, has_carried}
use Rattle.structure_call.proofs.Refusals.{not_cut, not_refused, none_there, some_there}
use Rattle.structure_call.proofs.carrying.carry_out.Goals as goal

pub answer-requires-clause-plan : goal.answer-requires-clause-plan
answer-requires-clause-plan g c =
    subst (λ (cs : List Change). IsPlan c.args.region.now c.args.op.now c.args.reply.now cs)
    (none_there c.args.changes.now (sym c.is_empty.ensures ∙ c.if-is_empty.true)) c.requires.plan

pub answer-requires-clause-numbers : goal.answer-requires-clause-numbers
answer-requires-clause-numbers g c =
    subst (λ (cs : List Change). first_at_end c.args.pass.now.ticket.known.part c.args.region.now cs ≡ None)
    (none_there c.args.changes.now (sym c.is_empty.ensures ∙ c.if-is_empty.true)) c.requires.numbers

pub returns-then-is_empty-clause-carried : goal.returns-then-is_empty-clause-carried
returns-then-is_empty-clause-carried g c =
    subst (λ (cs : List Change). KeepsReceipt c.args.pass.now.receipts.items c.answer.new.pass.receipts.items
    (HasCarriedOut c.args.heap.now c.args.region.now c.answer.new.region c.args.pass.now.ticket c.answer.new.pass.ticket c.args.op.now
    c.args.reply.now cs None))
    (sym (none_there c.args.changes.now (sym c.is_empty.ensures ∙ c.if-is_empty.true))) c.in_ok-answer.ensures.carried

pub write_all-written-requires-clause-may : goal.write_all-written-requires-clause-may
write_all-written-requires-clause-may g c =
    let heap = c.args.heap.now in
    let old = c.args.region.now in
    let q = c.args.pass.now.ticket in
    let changes = c.args.changes.now in
    let mid = c.begin-begun.new.region in
    let guard = c.in_ok-guard.guard in
    let ok = not_refused c.unit-unit.result c.begin-begun.result guard c.or_refused.result c.or_refused.ensures c.in_ok-guard.was in
    let begun = IfOk-at_ok (λ (x : Guard). HasBegun heap old mid q (length changes) x) ok c.begin-begun.ensures.begun in
    may_put_all heap old q c.args.op.now c.args.reply.now changes c.requires.ready c.requires.plan c.requires.numbers mid guard begun

pub keep_commit-requires-clause-may : goal.keep_commit-requires-clause-may
keep_commit-requires-clause-may g c =
    let heap = c.args.heap.now in
    let old = c.args.region.now in
    let q = c.args.pass.now.ticket in
    let changes = c.args.changes.now in
    let mid = c.begin-begun.new.region in
    let done = c.write_all-written.new.region in
    let guard = c.in_ok-guard.guard in
    let g2 = c.in_ok-guard-2.guard in
    let last = c.in_ok-guard-2.slot in
    let ok = not_refused c.unit-unit.result c.begin-begun.result guard c.or_refused.result c.or_refused.ensures c.in_ok-guard.was in
    let begun = IfOk-at_ok (λ (x : Guard). HasBegun heap old mid q (length changes) x) ok c.begin-begun.ensures.begun in
    let ok2 = not_cut c.unit-unit.result c.write_all-written.result (g2, last) c.or_cut.result c.or_cut.ensures c.in_ok-guard-2.was in
    let written = IfOk-at_ok (λ (x : Guard × Option ℕ). HasWrittenAll heap mid done guard x.0 changes x.1) ok2
    c.write_all-written.ensures.written in
    let same = IfOk-at_ok (λ (x : Guard). c.begin-begun.new.pass.ticket ≡ q) ok c.begin-begun.ensures.caller in
    let same2 = IfOk-at_ok (λ (x : Guard × Option ℕ). c.write_all-written.new.pass.ticket ≡ c.begin-begun.new.pass.ticket) ok2
    c.write_all-written.ensures.caller in
    subst (λ (x : CallerShown). CanLeave heap.opening.layout done.books.unit done.seat.known.part x.known.part c.args.op.now
    c.args.reply.now
    g2.epoch) (sym (same2 ∙ same))
    (may_leave heap old q c.args.op.now c.args.reply.now changes c.requires.ready c.requires.plan c.requires.numbers mid guard begun done g2
    last written (some_there changes (sym c.is_empty.ensures ∙ c.if-is_empty.false)))

pub returns-in-Ok-clause-carried : goal.returns-in-Ok-clause-carried
returns-in-Ok-clause-carried g c =
    let heap = c.args.heap.now in
    let old = c.args.region.now in
    let q = c.args.pass.now.ticket in
    let op = c.args.op.now in
    let reply = c.args.reply.now in
    let changes = c.args.changes.now in
    let mid = c.begin-begun.new.region in
    let done = c.write_all-written.new.region in
    let guard = c.in_ok-guard.guard in
    let g2 = c.in_ok-guard-2.guard in
    let last = c.in_ok-guard-2.slot in
    let ok = not_refused c.unit-unit.result c.begin-begun.result guard c.or_refused.result c.or_refused.ensures c.in_ok-guard.was in
    let begun = IfOk-at_ok (λ (x : Guard). HasBegun heap old mid q (length changes) x) ok c.begin-begun.ensures.begun in
    let new = c.keep_commit.new.region in
    let r = c.keep_commit.new.pass.ticket in
    let committed = c.in-Ok.ensures.committed in
    let receipt = committed.receipt in
    let ok2 = not_cut c.unit-unit.result c.write_all-written.result (g2, last) c.or_cut.result c.or_cut.ensures c.in_ok-guard-2.was in
    let written = IfOk-at_ok (λ (x : Guard × Option ℕ). HasWrittenAll heap mid done guard x.0 changes x.1) ok2
    c.write_all-written.ensures.written in
    let same = IfOk-at_ok (λ (x : Guard). c.begin-begun.new.pass.ticket ≡ q) ok c.begin-begun.ensures.caller in
    let same2 = IfOk-at_ok (λ (x : Guard × Option ℕ). c.write_all-written.new.pass.ticket ≡ c.begin-begun.new.pass.ticket) ok2
    c.write_all-written.ensures.caller in
    let held = subst (λ (x : CallerShown). HasCommitted heap done new x r op reply g2.epoch receipt) (same2 ∙ same)
    committed.holds in
    record {
      receipt = receipt;
      kept = committed.kept
          ∙ ap (λ receipts. receipts.items ++ receipt ∷ []) (c.write_all-written.ensures.receipts ∙ c.begin-begun.ensures.receipts);
      holds = record {
        answered = answered_call heap old q op reply changes c.requires.ready c.requires.plan c.requires.numbers mid guard begun
            done g2 last written new r receipt held;
        replied = ap (λ (x : Receipt). x.entry.reply) held.answered.receipt_is;
        carried = has_carried heap old q op reply changes c.requires.ready c.requires.plan c.requires.numbers mid guard begun
            done g2 last written new r receipt held;
      };
    }
