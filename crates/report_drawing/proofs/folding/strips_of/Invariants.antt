use Rattle.std.proofs.Common.{take, map}
use Rattle.report_drawing.specs.Lanes.{cells_of}
use Rattle.report_drawing.specs.Folding.{AreStrips}
use Rattle.report_drawing.proofs.folding.strips_of.Given as goal

abbrev pub invariant-loop-lane : goal.invariant-loop-lane
invariant-loop-lane l = AreStrips l.columns (map cells_of (take l.lane-index l.lanes)) l.strips.items
