use Rattle.std.proofs.Common.{rules}
use Rattle.core_steps.specs.Storing.{LooksFree}
use Rattle.core_answer.proofs.StoreCases.{store_from_field, field_from_store}
use Rattle.core_answer.proofs.storing.can_store.Goals as goal

pub returns-then-settled-2 : goal.returns-then-settled-2
returns-then-settled-2 c =
    let k = c.args.core.now in
    let a = c.args in
    let Free : Type 0 = LooksFree k.layout k.cur k.dur a.unit a.part.now a.slot in (
      λ t. (
        store_from_field Free a.unit a.part.now a.slot a.value a.field c.if-field-eq0.false (c.can_store_field.ensures.0 t),
        search rules,
      ),
      λ can. c.can_store_field.ensures.1 (field_from_store Free a.unit a.part.now a.slot a.value a.field c.if-field-eq0.false can.0),
    )
