-- Leaves are judged on the states and the newest records that are kept beside a core.
use Rattle.std.proofs.Common.{◌≡◌, ℕ, Option, Some, List, slice_get, refl, sym, ap, ◌∙◌, subst}
use Rattle.mont_base.specs.declared.record.Held.{Held}
use Rattle.mont_base.specs.declared.operation.Op.{Op}
use Rattle.mont_base.specs.declared.operation.Reply.{Reply}
use Rattle.mont_base.specs.State.{State, step}
use Rattle.mont_laws.specs.Effects.{IsOpOf, AreEffects}
use Rattle.mont_laws.specs.Structures.{HasStructure}
use Rattle.core_steps.specs.declared.event.Event.TheVariants as events
use Rattle.core_steps.specs.declared.parts.Core.{Core}
use Rattle.core_steps.specs.declared.parts.UnitPart.{UnitPart}
use Rattle.core_steps.specs.declared.parts.CallerPart.{CallerPart}
use Rattle.core_steps.specs.Places.{RowHas}
use Rattle.core_steps.specs.Stages.{epoch_of, limit_of}
use Rattle.core_steps.specs.Clock.{clock, durable_clock}
use Rattle.core_steps.specs.CallAnswers.{CanLeave}
use Rattle.core_steps.specs.Events.{OfCaller, IsAllowed}
use Rattle.core_steps.specs.Sound.{IsSound, base_state}
use Rattle.core_steps.proofs.UnitAnswers.{judged_state}
use Rattle.core_answer.specs.Answering.{IsReadyToLeave}
use Rattle.core_answer.specs.Judging.{Answers}
use Rattle.core_answer.proofs.SameNewest.{same_structure}
use Rattle.core_answer.proofs.Judged.{leaves, ready_to_leave, leaves_effects}
use Rattle.replay.specs.Replays.{nothing, unit_states}
use Rattle.replay.specs.NewestBeside.{IsKeptOf, IsLeaving}
use Rattle.replay.proofs.UnitStates.{row_of, own_unit, shown}

module _ (c : Core) (sound : IsSound (nothing c.layout) c) (u k : ℕ) (o : Op) (r : Reply) (x : State)
    (at : slice_get (unit_states c) u ≡ Some x) (rs : List Held) (kept : IsKeptOf rs c.units u) where
  -- what the newest records show
  answers : (p : UnitPart) → slice_get c.units u ≡ Some p → IsOpOf c.layout u o → r ≡ (step x o).reply
      → Answers c.layout u rs o r (step x o).effects
  answers p here of_unit replies = record {
    of_unit = of_unit;
    state = x;
    shown =
        same_structure c.layout u p.records rs (λ i. sym (kept p here i)) x
        (subst (λ (s : State). HasStructure c.layout u p.records s) (sym (own_unit c sound u k o r x at p here))
        (shown c sound u k o r x at p here));
    replies = replies;
    does = refl;
  }

  pub leave_may : IsLeaving c u k rs o (step x o).effects → r ≡ (step x o).reply → IsAllowed c (events.Leave u k o r)
  leave_may h replies =
      let p = row_of (slice_get c.units u) _ h.ready in
      let q = row_of (slice_get c.callers k) _ p.2 in
      let can : CanLeave c.layout u p.0 q.0 o r (epoch_of p.0.stage) =
      leaves c.layout u p.0 q.0 o r rs (kept p.0 p.1) (epoch_of p.0.stage) (step x o).effects q.2.0
      (answers p.0 p.1 h.of_unit replies) q.2.1 in (
        h.none_lost,
        subst (λ (row : Option UnitPart). RowHas row (λ y. OfCaller c k (λ z. CanLeave c.layout u y z o r (epoch_of y.stage)))) (sym p.1)
            (subst (λ (row : Option CallerPart). RowHas row (λ z. CanLeave c.layout u p.0 z o r (epoch_of p.0.stage))) (sym q.1) can),
      )

  pub leave_needs : IsAllowed c (events.Leave u k o r) → IsLeaving c u k rs o (step x o).effects × (r ≡ (step x o).reply)
  leave_needs h =
      let p = row_of (slice_get c.units u) _ h.1 in
      let q = row_of (slice_get c.callers k) _ p.2 in
      let can : CanLeave c.layout u p.0 q.0 o r (epoch_of p.0.stage) = q.2 in
      let f = sound.units u p.0 p.1 in
      let same =
      judged_state c.layout (durable_clock c) u (base_state (nothing c.layout) u) p.0.records p.0.history f.objects
      (limit_of (clock c) p.0.stage)
      f.reached p.0 o r can.judged refl
      ∙ sym (own_unit c sound u k o r x at p.0 p.1) in
      let replies : r ≡ (step x o).reply = can.judged.replies ∙ ap (λ (s : State). (step s o).reply) same in
      let told = answers p.0 p.1 can.judged.of_unit replies in
      let ready : IsReadyToLeave p.0 q.0 (epoch_of p.0.stage) × AreEffects u rs (step x o).effects p.0.written = (
        ready_to_leave c.layout u p.0 q.0 o r rs (kept p.0 p.1) (epoch_of p.0.stage) can,
        leaves_effects c.layout u p.0 q.0 o r rs (kept p.0 p.1) (epoch_of p.0.stage) (step x o).effects can told,
      ) in (
        record {
          none_lost = h.0;
          of_unit = can.judged.of_unit;
          ready =
              subst
              (λ (row : Option UnitPart). RowHas row (λ y. OfCaller c k
              (λ z. IsReadyToLeave y z (epoch_of y.stage) × AreEffects u rs (step x o).effects y.written))) (sym p.1)
              (subst
              (λ (row : Option CallerPart). RowHas row
              (λ z. IsReadyToLeave p.0 z (epoch_of p.0.stage) × AreEffects u rs (step x o).effects p.0.written)) (sym q.1) ready);
        },
        replies,
      )
