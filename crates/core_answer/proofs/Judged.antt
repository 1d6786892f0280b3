-- An answer is judged on the newest records of its unit alone.
use Rattle.std.proofs.Common.{◌≡◌, ℕ, List, [], sym, ap, ◌∙◌, subst}
use Rattle.mont_base.specs.declared.record.Held.{Held}
use Rattle.mont_base.specs.declared.effect.Effect.{Effect}
use Rattle.mont_base.specs.declared.operation.Op.{Op}
use Rattle.mont_base.specs.declared.operation.Reply.{Reply}
use Rattle.mont_base.specs.Layout.{Shape}
use Rattle.mont_base.specs.State.{State, step}
use Rattle.mont_laws.specs.Effects.{AreEffects}
use Rattle.mont_laws.proofs.Shown.{one_state}
use Rattle.core_steps.specs.declared.parts.UnitPart.{UnitPart}
use Rattle.core_steps.specs.declared.parts.CallerPart.{CallerPart}
use Rattle.core_steps.specs.CallAnswers.{IsJudged, CanLeave, CanRead}
use Rattle.core_answer.specs.Answering.{IsReadyToLeave, IsReadyToRead}
use Rattle.core_answer.specs.Judging.{Answers}
use Rattle.core_answer.specs.Newest.{HaveSameNewest}
use Rattle.core_answer.proofs.SameNewest.{same_structure, same_effects}

module _ (s : Shape) (u : ℕ) (p : UnitPart) (q : CallerPart) (op : Op) (reply : Reply) (rs : List Held)
    (same : HaveSameNewest rs p.records) where
  back : HaveSameNewest p.records rs
  back i = sym (same i)

  -- ---- what is judged
  abbrev judged : (effects : List Effect) → Answers s u rs op reply effects → IsJudged s u p op reply
  judged effects a = record {
    of_unit = a.of_unit;
    state = a.state;
    shown = same_structure s u rs p.records same a.state a.shown;
    replies = a.replies;
  }

  pub judged_answers : (j : IsJudged s u p op reply) → Answers s u rs op reply (step j.state op).effects
  judged_answers j = record {
    of_unit = j.of_unit;
    state = j.state;
    shown = same_structure s u p.records rs back j.state j.shown;
    replies = j.replies;
    does = λ i. (step j.state op).effects;
  }

  -- there is one answer
  one_answer : (effects : List Effect) (j : IsJudged s u p op reply) → Answers s u rs op reply effects → (step j.state op).effects ≡ effects
  one_answer effects j a =
      ap (λ (state : State). (step state op).effects)
      (one_state s u rs j.state a.state (same_structure s u p.records rs back j.state j.shown) a.shown)
      ∙ sym a.does

  -- ---- Leave
  pub leaves : (epoch : ℕ) (effects : List Effect) → IsReadyToLeave p q epoch → Answers s u rs op reply effects
      → AreEffects u rs effects p.written → CanLeave s u p q op reply epoch
  leaves epoch effects ready a are = record {
    unfrozen = ready.unfrozen;
    stage = ready.stage;
    whole = ready.whole;
    some = ready.some;
    judged = judged effects a;
    changes = subst (λ (es : List Effect). AreEffects u p.records es p.written) a.does
        (same_effects rs p.records same u effects p.written are);
    numbers = ready.numbers;
    newest = ready.newest;
  }

  pub ready_to_leave : (epoch : ℕ) → CanLeave s u p q op reply epoch → IsReadyToLeave p q epoch
  ready_to_leave epoch can = record {
    unfrozen = can.unfrozen;
    stage = can.stage;
    whole = can.whole;
    some = can.some;
    numbers = can.numbers;
    newest = can.newest;
  }

  pub leaves_effects : (epoch : ℕ) (effects : List Effect) → CanLeave s u p q op reply epoch → Answers s u rs op reply effects
      → AreEffects u rs effects p.written
  leaves_effects epoch effects can a =
      subst (λ (es : List Effect). AreEffects u rs es p.written) (one_answer effects can.judged a)
      (same_effects p.records rs back u (step can.judged.state op).effects p.written can.changes)

  -- ---- Read
  pub reads : (effects : List Effect) → IsReadyToRead p q → Answers s u rs op reply effects → effects ≡ [] → CanRead s u p q op reply
  reads effects ready a none = record {
    unfrozen = ready.unfrozen;
    stage = ready.stage;
    judged = judged effects a;
    changes = sym a.does ∙ none;
    numbers = ready.numbers;
  }

  pub reads_nothing : (effects : List Effect) → CanRead s u p q op reply → Answers s u rs op reply effects → effects ≡ []
  reads_nothing effects can a = sym (one_answer effects can.judged a) ∙ can.changes
