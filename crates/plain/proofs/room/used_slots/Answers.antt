use Rattle.std.proofs.Common.{◌+◌, ◌^◌, ◌≤◌, inl, inr, arith, nat_lt}
use Rattle.std.proofs.lemmas.Result.{err_from_is_err_and, on_err_weaker}
use Rattle.mont_base.specs.State.{step}
use Rattle.plain.specs.States.{state_of}
use Rattle.plain.proofs.Changes.{late_or_some, changed_here}
use Rattle.plain.proofs.room.used_slots.Goals as goal

pub returns-in_err-retired_late-clause-memory : goal.returns-in_err-retired_late-clause-memory
returns-in_err-retired_late-clause-memory c =
    let failed = err_from_is_err_and c.from_residual.result c.from_residual.ensures.1 in
    rw failed.1 (c.loop-entry.invariant.changes
    (changed_here (state_of c.loop-entry.state) c.args.entries.now c.loop-entry.entry-index c.entry-item.result (omega arith)
    c.entry-item.is c.in_err-retired_late.ensures.memory))

pub returns-in_err-retired-clause-memory : goal.returns-in_err-retired-clause-memory
returns-in_err-retired-clause-memory c =
    let s = state_of c.loop-entry.state in
    let e = c.entry-item.result in
    let failed = err_from_is_err_and c.from_residual-in_err-retired.result c.from_residual-in_err-retired.ensures.1 in
    let above : 2 ^ 64 ≤ c.loop-entry.retired + c.in_ok-retired_late.field-0 = c.in_err-retired.ensures.memory in
    let late = nat_lt c.args.clock (e.epoch + 2) in
    rw failed.1 (elim c.loop-entry.invariant.none [
      | inl none ↦ elim (late_or_some late (step s e.op).effects c.in_ok-retired_late.field-0 c.in_ok-retired_late.ensures.count) [
        | inl nothing ↦ absurd (omega (arith, above, none, nothing))
        | inr some ↦
            c.loop-entry.invariant.changes
            (changed_here s c.args.entries.now c.loop-entry.entry-index e (omega arith) c.entry-item.is some)
      ]
      | inr some ↦ some
    ])

pub returns-in_err-apply-clause-memory : goal.returns-in_err-apply-clause-memory
returns-in_err-apply-clause-memory c =
    let failed = err_from_is_err_and c.from_residual-in_err-apply.result c.from_residual-in_err-apply.ensures.1 in
    rw failed.1 (c.loop-entry.invariant.changes
    (changed_here (state_of c.loop-entry.state) c.args.entries.now c.loop-entry.entry-index c.entry-item.result (omega arith)
    c.entry-item.is c.in_err-apply.ensures.memory))

pub returns-clause-memory : goal.returns-clause-memory
returns-clause-memory c =
    on_err_weaker c.sum-2.result (λ above. elim c.loop-entry.invariant.none [
      | inl none ↦ absurd (omega (arith, above, none))
      | inr some ↦ some
    ]) c.sum-2.ensures.memory
