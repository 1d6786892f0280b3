use Rattle.std.proofs.Common.{◌≡◌, ◌++◌, take, map}
use Rattle.report_drawing.specs.declared.lanes.Cell.{Cell}
use Rattle.report_drawing.proofs.columns.push_epochs.Given as goal

abbrev pub invariant-loop-cell : goal.invariant-loop-cell
invariant-loop-cell l = l.epochs.items ≡ l.initial.epochs.items ++ map (λ (cell : Cell). cell.epoch) (take l.cell-index l.cells)
