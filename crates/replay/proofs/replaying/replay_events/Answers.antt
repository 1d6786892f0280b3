use Rattle.std.proofs.Common.{◌≡◌, ◌<◌, ◌+◌, ℕ, List, length, get_or, Result, Option, Err, sym, ap, ◌∙◌, subst, arith}
use Rattle.std.specs.String.{string_bytes}
use Rattle.std.proofs.lemmas.List.{append-nil}
use Rattle.std.specs.List.{enumerate_from}
use Rattle.mont_base.specs.State.{Run}
use Rattle.core_steps.specs.declared.event.Event.{Event}
use Rattle.core_steps.specs.declared.parts.Core.{Core}
use Rattle.job_text.proofs.Written.{lines_written}
use Rattle.replay.specs.declared.replay_refusal.ReplayRefusal.{ReplayRefusal}
use Rattle.replay.specs.declared.replay_refusal.ReplayRefusal.TheVariants.{NotAllowed}
use Rattle.replay.specs.Replays.{MayMake, fresh_core, reached, core_words}
use Rattle.replay.proofs.Reaching.{HasMade, none_made, one_made, none_allowed, line_more, all_made, lines_past}
use Rattle.replay.specs.declared.newest_kept.NewestKept.{NewestKept}
use Rattle.replay.specs.NewestBeside.{AreKept}
use Rattle.replay.proofs.RecordsKept.{none_kept}
use Rattle.replay.proofs.UnitStates.{fresh_kept, fresh_sound, sound_kept}
use Rattle.replay.proofs.replaying.replay_events.Goals as goal

same_line : (m n : ℕ) → ◌≡◌ {A = Result Core ReplayRefusal} (Err (NotAllowed m)) (Err (NotAllowed n)) → n ≡ m
same_line m n e = cc

pub loop-place-init : goal.loop-place-init
loop-place-init c =
    let s = c.args.schedule.now in (
      subst (HasMade s 0 c.in_ok-core.core) (sym c.as_slice-runs.ensures) (none_made s c.in_ok-core.core c.in_ok-core.ensures),
      sym (append-nil (string_bytes c.args.text.now)),
      fresh_sound c.in_ok-core.core s.layout s.callers c.units-units.ensures.layout c.in_ok-core.ensures,
      fresh_kept c.in_ok-core.core s.layout s.callers _ c.in_ok-core.ensures c.in_ok-states.ensures,
      subst (λ (ns : List (Option NewestKept)). AreKept ns c.in_ok-core.core.units) (sym c.in_ok-kept.ensures)
          (none_kept _ c.in_ok-core.core.units),
    )

pub returns-in-Err-NotAllowed-clause-refused : goal.returns-in-Err-NotAllowed-clause-refused
returns-in-Err-NotAllowed-clause-refused c = λ line same.
    let s = c.args.schedule.now in
    let event = c.event-item.result in
    let events = c.as_slice-event-items.ensures in
    none_allowed s c.loop-place.place c.loop-place.core c.loop-place.runs.now c.loop-place.invariant.0 event
    (omega (arith, ap length events))
    (c.event-item.is ∙ ap (λ (es : List Event). get_or es c.loop-place.place event) events)
    (subst (λ (run : Run). MayMake c.loop-place.core (event, run) → ⊥) c.next_run.ensures.run
    (c.in-Err-NotAllowed.ensures.refused (ap Err c.in-Err-NotAllowed.field-0-is)))
    line (same_line _ _ same)

pub loop-place-preserved : goal.loop-place-preserved
loop-place-preserved c =
    let s = c.args.schedule.now in
    let i = c.loop-place.place in
    let core = c.loop-place.core in
    let event = c.event-item.result in
    let events = c.as_slice-event-items.ensures in
    let within : i < length s.events = omega (arith, ap length events) in
    let is = c.event-item.is ∙ ap (λ (es : List Event). get_or es i event) events in
    let may = subst (λ (run : Run). MayMake core (event, run)) c.next_run.ensures.run c.in-Ok.ensures.made in (
      subst (HasMade s (i + 1) c.make.new.core) (sym c.next_run.ensures.left)
          (one_made s i core c.loop-place.runs.now c.loop-place.invariant.0 event within is c.make.new.core may c.in-Ok.ensures.ok),
      line_more s i core c.loop-place.runs.now c.loop-place.invariant.0 event within is (string_bytes c.args.text.now)
          (string_bytes c.loop-place.text) (string_bytes c.write_core.new.text) c.make.new.core c.in-Ok.ensures.ok c.loop-place.invariant.1
          c.in_ok-write_core.ensures,
      sound_kept core c.make.new.core event c.loop-place.invariant.2 may.allowed c.in-Ok.ensures.ok,
      c.in-Ok.ensures.states,
      c.in-Ok.ensures.kept,
    )

pub returns-clause-allowed : goal.returns-clause-allowed
returns-clause-allowed c =
    let s = c.args.schedule.now in
    all_made s c.loop-place.place c.loop-place.core c.loop-place.runs.now c.loop-place.invariant.0
    (omega (arith, ap length c.as_slice-event-items.ensures))

pub returns-clause-text : goal.returns-clause-text
returns-clause-text c =
    let s = c.args.schedule.now in
    lines_written (λ (p : ℕ × Core). core_words p) (enumerate_from 1 (reached (fresh_core s) s.events)) c.loop-place.place
    (string_bytes c.args.text.now) (string_bytes c.loop-place.text)
    (lines_past s c.loop-place.place c.loop-place.core c.loop-place.runs.now c.loop-place.invariant.0
    (omega (arith, ap length c.as_slice-event-items.ensures)))
    c.loop-place.invariant.1
