use Rattle.std.proofs.Common.{map, arith}
use Rattle.report_drawing.specs.Lanes.{shown_of}
use Rattle.report_drawing.specs.Folding.{IsStack, drawn_all}
use Rattle.report_drawing.proofs.Lists.{along_more, along_all}
use Rattle.report_drawing.proofs.folding.stacks_of.Goals as goal

pub loop-column-preserved : goal.loop-column-preserved
loop-column-preserved c = along_more (IsStack (map shown_of c.args.cells.now)) drawn_all c.args.columns.now
    c.loop-column.column-index _ _ _ _
    (omega arith) c.in_ok-push.ensures.items c.in_ok-stack_of.ensures c.loop-column.invariant

pub returns : goal.returns
returns c = along_all (IsStack (map shown_of c.args.cells.now)) c.args.columns.now c.loop-column.column-index _ (omega arith)
    c.loop-column.invariant
