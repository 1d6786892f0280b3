use Rattle.std.proofs.Common.{sym, subst}
use Rattle.std.specs.Prelude.{◌↔◌, IfOk, IsTrue, slice_get}
use Rattle.core_steps.specs.declared.event.Event.{Event}
use Rattle.core_steps.specs.Stages.{epoch_of}
use Rattle.core_steps.specs.declared.parts.UnitPart.{UnitPart}
use Rattle.core_steps.specs.declared.parts.CallerPart.{CallerPart}
use Rattle.core_steps.specs.CallAnswers.{CanLeave, CanRead}
use Rattle.core_steps.specs.Events.{UnitMay}
use Rattle.core_run.proofs.AllowedSteps.{rows_decided}
use Rattle.core_run.proofs.allowing.unit_may.Goals as goal

pub returns-in-Some-Some-clause-allowed : goal.returns-in-Some-Some-clause-allowed
returns-in-Some-Some-clause-allowed c =
    let k = c.args.core.now in
    let e = c.in-Leave in
    subst (λ (x : Event). IfOk c.can_leave.result (λ b. IsTrue b ↔ UnitMay k x)) (sym e.is)
    (rows_decided c.can_leave.result (slice_get k.units e.unit) c.in-Some-Some.part.now (slice_get k.callers e.caller)
    c.in-Some-Some.of_caller.now
    (λ (p : UnitPart) (q : CallerPart). CanLeave k.layout e.unit p q e.op e.reply (epoch_of p.stage))
    c.in-Some-Some.ensures c.in-Some-Some.ensures' c.can_leave.ensures)

pub returns-in-Some-Some-2-clause-allowed : goal.returns-in-Some-Some-2-clause-allowed
returns-in-Some-Some-2-clause-allowed c =
    let k = c.args.core.now in
    let e = c.in-Read in
    subst (λ (x : Event). IfOk c.can_read.result (λ b. IsTrue b ↔ UnitMay k x)) (sym e.is)
    (rows_decided c.can_read.result (slice_get k.units e.unit) c.in-Some-Some-2.part.now (slice_get k.callers e.caller)
    c.in-Some-Some-2.of_caller.now (λ (p : UnitPart) (q : CallerPart). CanRead k.layout e.unit p q e.op e.reply)
    c.in-Some-Some-2.ensures c.in-Some-Some-2.ensures' c.can_read.ensures)
