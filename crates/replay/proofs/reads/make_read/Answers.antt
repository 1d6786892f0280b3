use Rattle.std.proofs.Common.{Some, sym, ap, ◌∙◌}
use Rattle.std.specs.Prelude.{map}
use Rattle.plain.specs.States.{state_of}
use Rattle.replay.specs.Replays.{unit_states}
use Rattle.replay.proofs.UnitStates.{none_there, some_there, read_may, read_needs, read_states, told_states, told_reply, same_reply, unit_there}
use Rattle.replay.proofs.reads.make_read.Goals as goal

pub returns-in_default-clause-refused : goal.returns-in_default-clause-refused
returns-in_default-clause-refused c = λ same h.
    none_there c.args.core.now c.args.states.now c.requires.states c.args.unit c.in_default.ensures _ h.1

pub returns-then-not-branch-clause-refused : goal.returns-then-not-branch-clause-refused
returns-then-not-branch-clause-refused c = λ same h.
    let a = c.args in
    let core = a.core.now in
    let at = some_there core a.states.now c.requires.states a.unit c.in-Some.state.now c.in-Some.ensures in
    let needs = read_needs core c.requires.sound a.unit a.caller a.op.now a.reply.now (state_of c.in-Some.state.now) at h in
    let yes = c.in_ok-changes_nothing.ensures.1 needs.changes in
    let no = c.if-not-branch.true in
    absurd (cc)

pub returns-then-not-is_reply-clause-refused : goal.returns-then-not-is_reply-clause-refused
returns-then-not-is_reply-clause-refused c = λ same h.
    let a = c.args in
    let core = a.core.now in
    let at = some_there core a.states.now c.requires.states a.unit c.in-Some.state.now c.in-Some.ensures in
    let needs = read_needs core c.requires.sound a.unit a.caller a.op.now a.reply.now (state_of c.in-Some.state.now) at h in
    let told = told_reply core (map state_of a.states.now)
    (map state_of c.answered.new.states) c.requires.states a.unit a.op.now c.in_ok-told.told
    (state_of c.in-Some.state.now) c.in_ok-told.ensures at in
    let yes = c.is_reply.ensures.1 (told ∙ ap Some (sym needs.replies)) in
    let no = c.if-not-is_reply.true in
    absurd (cc)

pub read-requires : goal.read-requires
read-requires c =
    let a = c.args in
    let core = a.core.now in
    let at = some_there core a.states.now c.requires.states a.unit c.in-Some.state.now c.in-Some.ensures in
    let told = told_reply core (map state_of a.states.now)
    (map state_of c.answered.new.states) c.requires.states a.unit a.op.now c.in_ok-told.told
    (state_of c.in-Some.state.now) c.in_ok-told.ensures at in
    let ready = c.is_ready.ensures.0 c.if-not-is_ready.false in
    read_may core c.requires.sound a.unit a.caller a.op.now a.reply.now (state_of c.in-Some.state.now) at (record {
      none_lost = ready.0;
      ready = ready.1;
      of_unit = c.is_op_of.ensures.0 c.if-not-is_op_of.false;
      replies = same_reply _ _ c.in_ok-told.told told (c.is_reply.ensures.0 c.if-not-is_reply.false);
      changes = c.in_ok-changes_nothing.ensures.0 c.if-not-branch.false;
    })

pub returns-clause-allowed : goal.returns-clause-allowed
returns-clause-allowed c =
    let a = c.args in
    let core = a.core.now in
    let at = some_there core a.states.now c.requires.states a.unit c.in-Some.state.now c.in-Some.ensures in
    let told = told_reply core (map state_of a.states.now)
    (map state_of c.answered.new.states) c.requires.states a.unit a.op.now c.in_ok-told.told
    (state_of c.in-Some.state.now) c.in_ok-told.ensures at in
    let ready = c.is_ready.ensures.0 c.if-not-is_ready.false in
    read_may core c.requires.sound a.unit a.caller a.op.now a.reply.now (state_of c.in-Some.state.now) at (record {
      none_lost = ready.0;
      ready = ready.1;
      of_unit = c.is_op_of.ensures.0 c.if-not-is_op_of.false;
      replies = same_reply _ _ c.in_ok-told.told told (c.is_reply.ensures.0 c.if-not-is_reply.false);
      changes = c.in_ok-changes_nothing.ensures.0 c.if-not-branch.false;
    })

pub returns-clause-states : goal.returns-clause-states
returns-clause-states c =
    let a = c.args in
    let core = a.core.now in
    let at = some_there core a.states.now c.requires.states a.unit c.in-Some.state.now c.in-Some.ensures in
    let told = told_reply core (map state_of a.states.now)
    (map state_of c.answered.new.states) c.requires.states a.unit a.op.now c.in_ok-told.told
    (state_of c.in-Some.state.now) c.in_ok-told.ensures at in
    let ready = c.is_ready.ensures.0 c.if-not-is_ready.false in
    let allowed = read_may core c.requires.sound a.unit a.caller a.op.now a.reply.now (state_of c.in-Some.state.now) at (record {
      none_lost = ready.0;
      ready = ready.1;
      of_unit = c.is_op_of.ensures.0 c.if-not-is_op_of.false;
      replies = same_reply _ _ c.in_ok-told.told told (c.is_reply.ensures.0 c.if-not-is_reply.false);
      changes = c.in_ok-changes_nothing.ensures.0 c.if-not-branch.false;
    }) in
    told_states core (map state_of a.states.now) (map state_of c.answered.new.states) c.requires.states a.unit a.op.now c.in_ok-told.told
    (unit_states c.read.new.core) c.in_ok-told.ensures (unit_there core a.unit _ ready.1)
    (λ x there. ap unit_states c.in_ok-read.ensures.ok ∙ read_states core a.unit a.caller a.op.now a.reply.now allowed x there)
