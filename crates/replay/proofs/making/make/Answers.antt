use Rattle.std.proofs.Common.{sym, ap, ◌∙◌, subst}
use Rattle.std.proofs.lemmas.Result.{on_ok_weaker}
use Rattle.core_steps.specs.declared.event.Event.{Event}
use Rattle.core_steps.specs.declared.event.Event.TheVariants as events
use Rattle.core_steps.specs.Events.{after}
use Rattle.replay.specs.NewestBeside.{AreKept}
use Rattle.replay.specs.Replays.{unit_states}
use Rattle.replay.proofs.StatesKept.{IsQuiet}
use Rattle.replay.proofs.UnitStates.{quiet_of, quiet_states}
use Rattle.replay.proofs.RecordsKept.{recordless_of, recordless_kept, closed_kept}
use Rattle.replay.proofs.making.make.Goals as goal

pub returns-in-Read-clause-kept : goal.returns-in-Read-clause-kept
returns-in-Read-clause-kept c =
    let core = c.args.core.now in
    let e = c.in-Read in
    on_ok_weaker c.make_read.result
    (λ made. recordless_kept core c.make_read.new.core (events.Read e.unit e.caller e.op e.reply) c.args.kept.now tt made c.requires.kept)
    c.make_read.ensures.ok

pub returns-in-PersistClose-clause-states : goal.returns-in-PersistClose-clause-states
returns-in-PersistClose-clause-states c =
    let core = c.args.core.now in
    let quiet : IsQuiet c.args.event.now = subst IsQuiet (sym c.in-PersistClose.is) tt in
    on_ok_weaker c.step.result
    (λ made. c.requires.states ∙ sym (quiet_states core c.args.event.now quiet) ∙ ap unit_states (sym made)) c.step.ensures.ok

pub returns-in-PersistClose-clause-kept : goal.returns-in-PersistClose-clause-kept
returns-in-PersistClose-clause-kept c =
    let core = c.args.core.now in
    let d = c.step.new.core in
    on_ok_weaker c.step.result
    (λ made. subst (λ ns. AreKept ns d.units) (sym c.forget.ensures)
    (closed_kept core d c.in-PersistClose.unit c.args.kept.now
    (made ∙ ap (λ (e : Event). after core e) c.in-PersistClose.is) c.requires.kept))
    c.step.ensures.ok

pub returns-in_default-clause-states : goal.returns-in_default-clause-states
returns-in_default-clause-states c =
    let core = c.args.core.now in
    let quiet = quiet_of c.args.event.now (λ u k o r. c.in_default.not-Leave u k o r) (λ u k o r. c.in_default.not-Read u k o r) in
    on_ok_weaker c.step-in_default.result
    (λ made. c.requires.states ∙ sym (quiet_states core c.args.event.now quiet) ∙ ap unit_states (sym made)) c.step-in_default.ensures.ok

pub returns-in_default-clause-kept : goal.returns-in_default-clause-kept
returns-in_default-clause-kept c =
    let core = c.args.core.now in
    let less = recordless_of c.args.event.now (λ u k o r. c.in_default.not-Leave u k o r) (λ u. c.in_default.not-PersistClose u) in
    on_ok_weaker c.step-in_default.result
    (λ made. recordless_kept core c.step-in_default.new.core c.args.event.now c.args.kept.now less made c.requires.kept)
    c.step-in_default.ensures.ok
