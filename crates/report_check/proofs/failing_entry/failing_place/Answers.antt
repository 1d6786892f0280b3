use Rattle.std.proofs.Common.{◌∙◌, Some, ap, sym}
use Rattle.std.specs.Prelude.{option_map}
use Rattle.std.proofs.lemmas.Option.{slice_get-map}
use Rattle.std.proofs.lemmas.Result.{IfOk-weaker}
use Rattle.plain.specs.States.{state_of}
use Rattle.job_text.specs.PlainReport.{report_of}
use Rattle.report_check.specs.HeldEntries.{EntryHolds, FrontHolds}
use Rattle.report_check.specs.Lowest.{IsFirst}
use Rattle.report_check.proofs.WalkedEntries.{first_of_unit}
use Rattle.report_check.proofs.failing_entry.failing_place.Goals as goal

pub returns : goal.returns
returns c =
    let r = report_of c.args.report.now in
    IfOk-weaker c.first_apart.result
    (IsFirst (FrontHolds r c.args.unit (state_of c.in-Some.base.now) c.as_slice-2.result.now c.as_slice.result.now))
    (IsFirst (EntryHolds r c.args.unit))
    (first_of_unit r c.args.unit _ _ _
    (slice_get-map state_of c.args.report.now.base.units c.args.unit ∙ ap (option_map state_of) c.in-Some.ensures)
    (c.in-Some-get.ensures ∙ ap Some (sym c.as_slice.ensures))
    (c.in-Some-get-2.ensures ∙ ap Some (sym c.as_slice-2.ensures))) c.first_apart.ensures
