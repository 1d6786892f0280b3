use Rattle.std.proofs.Common.{arith, below_more}
use Rattle.report_check.specs.Marks.{IsMarkedThere}
use Rattle.report_check.proofs.Lowests.{all_from_below, found_in_row, row_holds}
use Rattle.report_check.proofs.MarkLaws.{marked_past, no_row}
use Rattle.report_check.proofs.marks.first_unmarked.Goals as goal

pub returns-in-Some : goal.returns-in-Some
returns-in-Some c =
    found_in_row (IsMarkedThere c.args.marks.now) c.loop-unit.unit c.in-Some.place c.first_unmarked_in.result
    c.loop-unit.invariant c.first_unmarked_in.ensures c.in-Some.is

pub loop-unit-preserved : goal.loop-unit-preserved
loop-unit-preserved c =
    below_more _ _ c.loop-unit.invariant
    (row_holds (IsMarkedThere c.args.marks.now c.loop-unit.unit) c.first_unmarked_in.result c.first_unmarked_in.ensures
    c.in_default.not-Some)

pub returns : goal.returns
returns c =
    all_from_below (IsMarkedThere c.args.marks.now) c.loop-unit.unit c.loop-unit.invariant
    (λ u p high. marked_past c.args.marks.now u p (no_row c.args.marks.now u p (omega arith)))
