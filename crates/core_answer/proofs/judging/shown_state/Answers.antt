use Rattle.std.proofs.Common.{ap, ◌∙◌}
use Rattle.std.specs.Prelude.{Err}
use Rattle.std.specs.BTreeMap.{values}
use Rattle.mont_base.specs.Versions.{live_objects}
use Rattle.plain.specs.States.{state_of}
use Rattle.core_answer.proofs.ShownStates.{made_shown, none_shown}
use Rattle.core_answer.proofs.judging.shown_state.Goals as goal

pub returns-in-Ok : goal.returns-in-Ok
returns-in-Ok c =
    made_shown c.args.layout c.args.unit (values c.args.newest.now.records) c.in_ok-held.held.items c.deref-2.result.now
    c.in_ok-held.ensures.items c.in_ok-held.ensures.apart
    (c.deref-2.ensures.value ∙ c.in_ok-objects.ensures ∙ ap live_objects c.deref.ensures.value)
    (state_of c.in-Ok.state) c.in-Ok.ensures.built

pub returns-in-Err-Object : goal.returns-in-Err-Object
returns-in-Err-Object c =
    none_shown c.args.layout c.args.unit (values c.args.newest.now.records) c.in_ok-held.held.items c.deref-2.result.now
    c.in_ok-held.ensures.items c.in_ok-held.ensures.apart
    (c.deref-2.ensures.value ∙ c.in_ok-objects.ensures ∙ ap live_objects c.deref.ensures.value)
    c.in-Err-Object.field-0-0 c.in-Err-Object.field-0-1
    (c.in-Err-Object.ensures.refused c.in-Err-Object.field-0-0 c.in-Err-Object.field-0-1 (ap Err c.in-Err-Object.field-0-is))
