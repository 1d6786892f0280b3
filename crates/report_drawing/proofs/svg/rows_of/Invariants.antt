use Rattle.std.proofs.Common.{◌≡◌, take, map}
use Rattle.report_drawing.specs.Folding.{drawn_all}
use Rattle.report_drawing.specs.Svg.{rows_of}
use Rattle.report_drawing.proofs.svg.rows_of.Given as goal

abbrev pub invariant-loop-stack : goal.invariant-loop-stack
invariant-loop-stack l = l.rows ≡ rows_of (map drawn_all (take l.stack-index l.strip.stacks.items))
