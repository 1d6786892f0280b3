use Rattle.std.proofs.Common.{◌≡◌, ◌++◌, take, map}
use Rattle.report_drawing.specs.Lanes.{cells_of, unit_lane}
use Rattle.report_drawing.proofs.lanes.push_units.Given as goal

abbrev pub invariant-loop-unit : goal.invariant-loop-unit
invariant-loop-unit l = map cells_of l.lanes.items ≡ map cells_of l.initial.lanes.items
    ++ map (unit_lane l.report.image_clock) (take l.unit l.report.histories)
