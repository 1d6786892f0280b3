use Rattle.std.proofs.Common.{List, sym, subst}
use Rattle.std.specs.Prelude.{MatchOption}
use Rattle.std.specs.BTreeMap.{values}
use Rattle.mont_base.specs.declared.effect.Effect.{Effect}
use Rattle.mont_base.specs.declared.record.Held.{Held}
use Rattle.mont_base.specs.State.{step}
use Rattle.mont_laws.specs.Effects.{AreEffects}
use Rattle.core_steps.specs.Stages.{epoch_of}
use Rattle.core_answer.specs.Judging.{Answers}
use Rattle.core_answer.specs.Newest.{HaveSameNewest}
use Rattle.core_answer.proofs.Judged.{judged_answers, leaves, leaves_effects}
use Rattle.core_answer.proofs.answering.can_leave.Goals as goal

pub returns-in-Some : goal.returns-in-Some
returns-in-Some c =
    let a = c.args in
    let rs : List Held = values c.in_ok-newest.newest.records in
    let e = epoch_of a.part.now.stage in
    let same : HaveSameNewest rs a.part.now.records = subst (HaveSameNewest rs) c.as_slice.ensures c.in_ok-newest.ensures in
    let Are : List Effect → List Held → Type 0 = AreEffects a.unit rs in
    let Told : List Effect → Type 0 = Answers a.layout a.unit rs a.op.now a.reply.now in
    let told : Told c.in-Some.effects.items =
    subst (λ o. MatchOption o ((es : List Effect) → Told es → ⊥) (λ v. Told v.items)) c.in-Some.is c.in_ok-effects.ensures in (
      λ t. leaves a.layout a.unit a.part.now a.caller.now a.op.now a.reply.now rs same e c.in-Some.effects.items
          (c.is_ready_to_leave.ensures.0 c.if-not-is_ready_to_leave.false) told
          (subst (λ (es : List Effect). Are es a.part.now.written) c.deref.ensures.value
          (subst (Are c.deref.result.now) c.as_slice-in-Some.ensures (c.are_effects.ensures.0 t))),
      λ can. c.are_effects.ensures.1
          (subst (Are c.deref.result.now) (sym c.as_slice-in-Some.ensures)
          (subst (λ (es : List Effect). Are es a.part.now.written) (sym c.deref.ensures.value)
          (leaves_effects a.layout a.unit a.part.now a.caller.now a.op.now a.reply.now rs same e c.in-Some.effects.items can told))),
    )

pub returns : goal.returns
returns c =
    let a = c.args in
    let rs : List Held = values c.in_ok-newest.newest.records in
    let same : HaveSameNewest rs a.part.now.records = subst (HaveSameNewest rs) c.as_slice.ensures c.in_ok-newest.ensures in
    let Told : List Effect → Type 0 = Answers a.layout a.unit rs a.op.now a.reply.now in
    let none : (es : List Effect) → Told es → ⊥ =
    subst (λ o. MatchOption o ((es : List Effect) → Told es → ⊥) (λ v. Told v.items)) c.in-None.is c.in_ok-effects.ensures in (
      λ t. absurd (cc),
      λ can. absurd (none (step can.judged.state a.op.now).effects
          (judged_answers a.layout a.unit a.part.now a.caller.now a.op.now a.reply.now rs same can.judged)),
    )
