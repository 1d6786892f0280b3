use Rattle.std.proofs.Common.{List, sym, ◌∙◌, subst}
use Rattle.std.specs.Prelude.{MatchOption}
use Rattle.std.specs.BTreeMap.{values}
use Rattle.mont_base.specs.declared.effect.Effect.{Effect}
use Rattle.mont_base.specs.declared.record.Held.{Held}
use Rattle.mont_base.specs.State.{step}
use Rattle.core_answer.specs.Judging.{Answers}
use Rattle.core_answer.specs.Newest.{HaveSameNewest}
use Rattle.core_answer.proofs.Judged.{judged_answers, reads, reads_nothing}
use Rattle.core_answer.proofs.answering.can_read.Goals as goal

pub returns-in-Some : goal.returns-in-Some
returns-in-Some c =
    let a = c.args in
    let rs : List Held = values c.in_ok-newest.newest.records in
    let same : HaveSameNewest rs a.part.now.records = subst (HaveSameNewest rs) c.as_slice.ensures c.in_ok-newest.ensures in
    let Told : List Effect → Type 0 = Answers a.layout a.unit rs a.op.now a.reply.now in
    let told : Told c.in-Some.effects.items =
    subst (λ o. MatchOption o ((es : List Effect) → Told es → ⊥) (λ v. Told v.items)) c.in-Some.is c.in_ok-effects.ensures in (
      λ t. reads a.layout a.unit a.part.now a.caller.now a.op.now a.reply.now rs same c.in-Some.effects.items
          (c.is_ready_to_read.ensures.0 c.if-not-is_ready_to_read.false) told
          (sym c.deref.ensures.value ∙ c.is_nothing.ensures.0 t),
      λ can. c.is_nothing.ensures.1
          (c.deref.ensures.value
          ∙ reads_nothing a.layout a.unit a.part.now a.caller.now a.op.now a.reply.now rs same c.in-Some.effects.items can told),
    )

pub returns : goal.returns
returns c =
    let a = c.args in
    let rs : List Held = values c.in_ok-newest.newest.records in
    let same : HaveSameNewest rs a.part.now.records = subst (HaveSameNewest rs) c.as_slice.ensures c.in_ok-newest.ensures in
    let Told : List Effect → Type 0 = Answers a.layout a.unit rs a.op.now a.reply.now in
    let none : (es : List Effect) → Told es → ⊥ =
    subst (λ o. MatchOption o ((es : List Effect) → Told es → ⊥) (λ v. Told v.items)) c.in-None.is c.in_ok-effects.ensures in (
      λ t. absurd (cc),
      λ can. absurd (none (step can.judged.state a.op.now).effects
          (judged_answers a.layout a.unit a.part.now a.caller.now a.op.now a.reply.now rs same can.judged)),
    )
