use Rattle.std.proofs.Common.{◌≡◌, ◌++◌, take, map}
use Rattle.report_drawing.specs.Lanes.{cells_of, caller_lane}
use Rattle.report_drawing.proofs.lanes.push_callers.Given as goal

abbrev pub invariant-loop-caller : goal.invariant-loop-caller
invariant-loop-caller l = map cells_of l.lanes.items ≡ map cells_of l.initial.lanes.items
    ++ map (caller_lane l.report) (take l.caller l.report.outcomes)
