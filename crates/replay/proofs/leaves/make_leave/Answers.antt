use Rattle.std.proofs.Common.{List, None, Some, sym, ap, ◌∙◌, subst}
use Rattle.std.specs.Prelude.{map, slice_set}
use Rattle.std.specs.BTreeMap.{values}
use Rattle.mont_base.specs.declared.effect.Effect.{Effect}
use Rattle.plain.specs.States.{state_of}
use Rattle.replay.specs.NewestBeside.{AreKept, IsLeaving}
use Rattle.replay.specs.Replays.{unit_states}
use Rattle.replay.proofs.UnitStates.{none_there, some_there, leave_states, told_states, told_reply, same_reply, unit_there}
use Rattle.replay.proofs.LeavesJudged.{leave_may, leave_needs}
use Rattle.replay.proofs.RecordsKept.{forgot, left_kept}
use Rattle.replay.proofs.leaves.make_leave.Goals as goal

pub returns-in_default-clause-refused : goal.returns-in_default-clause-refused
returns-in_default-clause-refused c = λ same h.
    none_there c.args.core.now c.args.states.now c.requires.states c.args.unit c.in_default.ensures _ h.1

pub returns-then-not-is_leaving-clause-refused : goal.returns-then-not-is_leaving-clause-refused
returns-then-not-is_leaving-clause-refused c = λ same h.
    let a = c.args in
    let core = a.core.now in
    let x = state_of c.in-Some.state.now in
    let rs = values c.in_ok-newest.newest.records in
    let at = some_there core a.states.now c.requires.states a.unit c.in-Some.state.now c.in-Some.ensures in
    let needs = leave_needs core c.requires.sound a.unit a.caller a.op.now a.reply.now x at rs c.in_ok-newest.ensures.newest h in
    let yes =
    c.is_leaving.ensures.1
    (subst (λ (es : List Effect). IsLeaving core a.unit a.caller rs a.op.now es)
    (sym (c.deref.ensures.value ∙ c.in_ok-effects.ensures)) needs.0) in
    let no = c.if-not-is_leaving.true in
    absurd (cc)

pub returns-then-not-is_reply-clause-refused : goal.returns-then-not-is_reply-clause-refused
returns-then-not-is_reply-clause-refused c = λ same h.
    let a = c.args in
    let core = a.core.now in
    let x = state_of c.in-Some.state.now in
    let rs = values c.in_ok-newest.newest.records in
    let at = some_there core a.states.now c.requires.states a.unit c.in-Some.state.now c.in-Some.ensures in
    let needs = leave_needs core c.requires.sound a.unit a.caller a.op.now a.reply.now x at rs c.in_ok-newest.ensures.newest h in
    let told = told_reply core (map state_of a.states.now)
    (map state_of c.answered.new.states) c.requires.states a.unit a.op.now c.in_ok-told.told x
    c.in_ok-told.ensures at in
    let yes = c.is_reply.ensures.1 (told ∙ ap Some (sym needs.1)) in
    let no = c.if-not-is_reply.true in
    absurd (cc)

pub leave-requires-clause-allowed : goal.leave-requires-clause-allowed
leave-requires-clause-allowed c =
    let a = c.args in
    let core = a.core.now in
    let x = state_of c.in-Some.state.now in
    let rs = values c.in_ok-newest.newest.records in
    let at = some_there core a.states.now c.requires.states a.unit c.in-Some.state.now c.in-Some.ensures in
    let told = told_reply core (map state_of a.states.now)
    (map state_of c.answered.new.states) c.requires.states a.unit a.op.now c.in_ok-told.told x
    c.in_ok-told.ensures at in
    leave_may core c.requires.sound a.unit a.caller a.op.now a.reply.now x at rs c.in_ok-newest.ensures.newest
    (subst (λ (es : List Effect). IsLeaving core a.unit a.caller rs a.op.now es) (c.deref.ensures.value ∙ c.in_ok-effects.ensures)
    (c.is_leaving.ensures.0 c.if-not-is_leaving.false))
    (same_reply _ _ c.in_ok-told.told told (c.is_reply.ensures.0 c.if-not-is_reply.false))

pub returns-clause-allowed : goal.returns-clause-allowed
returns-clause-allowed c =
    let a = c.args in
    let core = a.core.now in
    let x = state_of c.in-Some.state.now in
    let rs = values c.in_ok-newest.newest.records in
    let at = some_there core a.states.now c.requires.states a.unit c.in-Some.state.now c.in-Some.ensures in
    let told = told_reply core (map state_of a.states.now)
    (map state_of c.answered.new.states) c.requires.states a.unit a.op.now c.in_ok-told.told x
    c.in_ok-told.ensures at in
    leave_may core c.requires.sound a.unit a.caller a.op.now a.reply.now x at rs c.in_ok-newest.ensures.newest
    (subst (λ (es : List Effect). IsLeaving core a.unit a.caller rs a.op.now es) (c.deref.ensures.value ∙ c.in_ok-effects.ensures)
    (c.is_leaving.ensures.0 c.if-not-is_leaving.false))
    (same_reply _ _ c.in_ok-told.told told (c.is_reply.ensures.0 c.if-not-is_reply.false))

pub returns-clause-states : goal.returns-clause-states
returns-clause-states c =
    let a = c.args in
    let core = a.core.now in
    let x = state_of c.in-Some.state.now in
    let rs = values c.in_ok-newest.newest.records in
    let at = some_there core a.states.now c.requires.states a.unit c.in-Some.state.now c.in-Some.ensures in
    let told = told_reply core (map state_of a.states.now)
    (map state_of c.answered.new.states) c.requires.states a.unit a.op.now c.in_ok-told.told x
    c.in_ok-told.ensures at in
    let allowed =
    leave_may core c.requires.sound a.unit a.caller a.op.now a.reply.now x at rs c.in_ok-newest.ensures.newest
    (subst (λ (es : List Effect). IsLeaving core a.unit a.caller rs a.op.now es) (c.deref.ensures.value ∙ c.in_ok-effects.ensures)
    (c.is_leaving.ensures.0 c.if-not-is_leaving.false))
    (same_reply _ _ c.in_ok-told.told told (c.is_reply.ensures.0 c.if-not-is_reply.false)) in
    told_states core (map state_of a.states.now) (map state_of c.answered.new.states) c.requires.states a.unit a.op.now c.in_ok-told.told
    (unit_states c.leave.new.core) c.in_ok-told.ensures (unit_there core a.unit _ allowed.1)
    (λ y there. ap unit_states c.in_ok-leave.ensures.ok ∙ leave_states core a.unit a.caller a.op.now a.reply.now allowed y there)

pub returns-clause-kept : goal.returns-clause-kept
returns-clause-kept c =
    let a = c.args in
    let core = a.core.now in
    let x = state_of c.in-Some.state.now in
    let rs = values c.in_ok-newest.newest.records in
    let at = some_there core a.states.now c.requires.states a.unit c.in-Some.state.now c.in-Some.ensures in
    let told = told_reply core (map state_of a.states.now)
    (map state_of c.answered.new.states) c.requires.states a.unit a.op.now c.in_ok-told.told x
    c.in_ok-told.ensures at in
    let allowed =
    leave_may core c.requires.sound a.unit a.caller a.op.now a.reply.now x at rs c.in_ok-newest.ensures.newest
    (subst (λ (es : List Effect). IsLeaving core a.unit a.caller rs a.op.now es) (c.deref.ensures.value ∙ c.in_ok-effects.ensures)
    (c.is_leaving.ensures.0 c.if-not-is_leaving.false))
    (same_reply _ _ c.in_ok-told.told told (c.is_reply.ensures.0 c.if-not-is_reply.false)) in
    subst (λ ns. AreKept ns c.leave.new.core.units)
    (sym (c.put_newest.ensures ∙ ap (λ ns. slice_set ns a.unit (Some c.leave.new.newest)) c.in_ok-newest.ensures.rest))
    (left_kept core c.leave.new.core a.unit a.caller a.op.now a.reply.now (slice_set a.kept.now a.unit None) c.leave.new.newest allowed
    c.in_ok-leave.ensures.ok c.in_ok-leave.ensures.newest (forgot a.kept.now core.units a.unit c.requires.kept))
