use Rattle.std.proofs.Common.{◌≡◌, [], ◌++◌, take, map}
use Rattle.report_drawing.specs.Lanes.{shown_of, entry_shown}
use Rattle.report_drawing.proofs.lanes.unit_cells.Given as goal

abbrev pub invariant-loop-entry : goal.invariant-loop-entry
invariant-loop-entry l = map shown_of l.cells.items ≡ [] ++ map (entry_shown l.image_clock) (take l.entry-index l.history)
