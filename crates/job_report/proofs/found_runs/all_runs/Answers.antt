use Rattle.std.proofs.Common.{List, ◌+◌, length, Some, refl, ap, sym, subst, ◌∙◌, arith}
use Rattle.std.proofs.lemmas.Option.{slice_get_read}
use Rattle.mont_base.specs.State.{Run}
use Rattle.plain.specs.States.{states_of}
use Rattle.job_report.proofs.RunLaws.{AreFirst, none_yet, one_more, whole}
use Rattle.job_report.proofs.found_runs.all_runs.Goals as goal

pub loop-unit-init : goal.loop-unit-init
loop-unit-init c =
    subst (λ (runs : List (List Run)). AreFirst (states_of c.args.base.now) c.args.histories.now runs 0) (sym c.new-runs.ensures)
    (none_yet (states_of c.args.base.now) c.args.histories.now)

pub loop-unit-preserved : goal.loop-unit-preserved
loop-unit-preserved c =
    let hs = c.args.histories.now in
    let unit = c.loop-unit.unit in
    subst (λ (runs : List (List Run)). AreFirst (states_of c.args.base.now) c.args.histories.now runs (c.loop-unit.unit + 1))
    (sym c.in_ok-push.ensures.ok)
    (one_more (states_of c.args.base.now) hs c.loop-unit.runs unit c.loop-unit.invariant c.in_ok-own.own c.as_slice.result.now
    (slice_get_read hs (length hs) unit c.index-histories-unit.result refl c.loop-unit-test.true c.index-histories-unit.is
    ∙ ap Some (sym c.as_slice.ensures)) c.in_ok-own.ensures)

pub returns : goal.returns
returns c =
    let last = c.loop-unit-test.false in
    let within = c.loop-unit.auto.unit-end in
    whole (states_of c.args.base.now) c.args.histories.now c.loop-unit.runs c.loop-unit.unit c.loop-unit.invariant
    (omega (arith, last, within))
