use Rattle.std.proofs.Common.{arith, below_more}
use Rattle.std.proofs.lemmas.Option.{slice_get_within}
use Rattle.job_text.specs.PlainReport.{report_of}
use Rattle.report_check.specs.HeldEntries.{EntryHolds}
use Rattle.report_check.proofs.Lowests.{all_from_below, found_in_row, row_holds}
use Rattle.report_check.proofs.failing_entry.failing_entry.Goals as goal

pub returns-in-Some : goal.returns-in-Some
returns-in-Some c =
    found_in_row (EntryHolds (report_of c.args.report.now)) c.loop-unit.unit c.in-Some.place c.in_ok-place.field-0
    c.loop-unit.invariant c.in_ok-place.ensures c.in-Some.is

pub loop-unit-preserved : goal.loop-unit-preserved
loop-unit-preserved c =
    below_more _ _ c.loop-unit.invariant
    (row_holds (EntryHolds (report_of c.args.report.now) c.loop-unit.unit) c.in_ok-place.field-0 c.in_ok-place.ensures
    c.in_default.not-Some)

pub returns : goal.returns
returns c =
    all_from_below (EntryHolds (report_of c.args.report.now)) c.loop-unit.unit c.loop-unit.invariant
    (λ u p high b h rs e f k.
    let within = slice_get_within c.args.report.now.histories u h f in absurd (omega arith))
