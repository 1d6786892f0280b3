use Rattle.std.proofs.Common.{take, map}
use Rattle.std.specs.List.{AllZip}
use Rattle.report_drawing.specs.Lanes.{shown_of}
use Rattle.report_drawing.specs.Folding.{IsStack, drawn_all}
use Rattle.report_drawing.proofs.folding.stacks_of.Given as goal

abbrev pub invariant-loop-column : goal.invariant-loop-column
invariant-loop-column l = AllZip (IsStack (map shown_of l.cells)) (take l.column-index l.columns) (map drawn_all l.stacks.items)
