use Rattle.std.proofs.Common.{◌≡◌, take, map}
use Rattle.report_drawing.specs.Lanes.{cells_of}
use Rattle.report_drawing.specs.Columns.{epochs_in}
use Rattle.report_drawing.proofs.columns.epochs_of.Given as goal

abbrev pub invariant-loop-lane : goal.invariant-loop-lane
invariant-loop-lane l = l.epochs.items
    ≡ epochs_in l.report.base_clock l.report.image_clock (map cells_of (take l.lane-index l.lanes))
