use Rattle.std.proofs.Common.{◌≡◌, List}
use Rattle.std.specs.Prelude.{Result, Ok, Err, OnErr}
use Rattle.core_steps.specs.declared.parts.UnitPart.{UnitPart}
use Rattle.core_steps.specs.declared.parts.CallerPart.{CallerPart}
use Rattle.core_answer.proofs.RowSteps.{put_both_back}
use Rattle.core_answer.proofs.answering.read.Goals as goal

both_kept : {T E : Type 0} (r : Result T E) (P Q S : Type 0) → (P → Q → S) → OnErr r P → OnErr r Q → OnErr r S
both_kept (Ok x) P Q S f p q = tt
both_kept (Err e) P Q S f p q = f p q

pub returns-clause-err : goal.returns-clause-err
returns-clause-err c =
    let k = c.args.core.now in
    both_kept c.answer.result (c.answer.new.part ≡ c.item_mut-part.result.now)
    (c.answer.new.caller ≡ c.item_mut-of_caller.result.now) _
    (λ is also. put_both_back (λ (l : List UnitPart) (m : List CallerPart). record k { units = l; callers = m }) k.units c.args.unit
    c.item_mut-part.result.now c.answer.new.part k.callers c.args.caller c.item_mut-of_caller.result.now c.answer.new.caller
    c.item_mut-part.ensures.value is c.item_mut-of_caller.ensures.value also)
    c.answer.ensures.unit_kept c.answer.ensures.caller_kept
