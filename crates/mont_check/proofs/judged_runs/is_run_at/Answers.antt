use Rattle.std.proofs.Common.{◌≡◌, ◌∙◌, Some, ap, sym}
use Rattle.std.specs.Prelude.{◌↔◌, IsTrue, option_map}
use Rattle.std.proofs.lemmas.Option.{slice_get-map}
use Rattle.std.proofs.lemmas.Result.{IfOk-weaker}
use Rattle.mont_base.specs.History.{runs_of}
use Rattle.plain.specs.States.{state_of, states_of}
use Rattle.job_text.specs.Faithful.{RunsAt}
use Rattle.job_text.specs.PlainReport.{report_of}
use Rattle.mont_check.proofs.RunLaws.{runs_missing, runs_there}
use Rattle.mont_check.proofs.judged_runs.is_run_at.Goals as goal

pub returns-in_default-get-2 : goal.returns-in_default-get-2
returns-in_default-get-2 c =
    runs_missing (states_of c.args.base.now) c.args.report.now.histories c.args.report.now.runs c.args.unit _ _
    (slice_get-map state_of c.args.base.now.units c.args.unit ∙ ap (option_map state_of) c.in-Some.ensures) c.in-Some-get.ensures
    c.in_default-get-2.ensures

pub has_runs-requires : goal.has_runs-requires
has_runs-requires c =
    c.requires c.args.unit _ _
    (slice_get-map state_of c.args.base.now.units c.args.unit ∙ ap (option_map state_of) c.in-Some.ensures)
    (c.in-Some-get.ensures ∙ ap Some (sym c.as_slice.ensures))

pub returns : goal.returns
returns c =
    IfOk-weaker c.has_runs.result
    (λ b. IsTrue b ↔ (c.as_slice-2.result.now ≡ runs_of (state_of c.in-Some.state.now) c.as_slice.result.now))
    (λ b. IsTrue b ↔ RunsAt (report_of c.args.report.now) (states_of c.args.base.now) c.args.unit)
    (λ b says.
    runs_there (states_of c.args.base.now) c.args.report.now.histories c.args.report.now.runs c.args.unit _ _
    (slice_get-map state_of c.args.base.now.units c.args.unit ∙ ap (option_map state_of) c.in-Some.ensures)
    (c.in-Some-get.ensures ∙ ap Some (sym c.as_slice.ensures)) c.as_slice-2.result.now b
    (c.in-Some-get-2.ensures ∙ ap Some (sym c.as_slice-2.ensures)) says) c.has_runs.ensures
