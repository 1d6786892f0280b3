use Rattle.std.proofs.Common.{◌≤◌, take, map}
use Rattle.report_drawing.specs.Lanes.{shown_of}
use Rattle.report_drawing.specs.Folding.{in_column, drawn_all, most_of}
use Rattle.report_drawing.proofs.Stacks.{Counts}
use Rattle.report_drawing.proofs.folding.stack_of.Given as goal

-- what is drawn and what is counted of the cells so far
abbrev pub invariant-loop-cell : goal.invariant-loop-cell
invariant-loop-cell l =
    (l.more ≤ l.cell-index)
    × Counts (most_of l.column) (in_column l.column (take l.cell-index (map shown_of l.cells))) (drawn_all l.labels) l.more
