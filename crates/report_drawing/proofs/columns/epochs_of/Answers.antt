use Rattle.std.proofs.Common.{◌++◌, List, map, ap, ◌∙◌, arith}
use Rattle.report_drawing.specs.declared.lanes.Cell.{Cell}
use Rattle.report_drawing.specs.declared.lanes.Lane.{Lane}
use Rattle.report_drawing.proofs.Epochs.{epochs_more}
use Rattle.report_drawing.proofs.columns.epochs_of.Goals as goal

pub loop-lane-preserved : goal.loop-lane-preserved
loop-lane-preserved c = epochs_more c.args.report.now.base_clock c.args.report.now.image_clock c.args.lanes.now c.loop-lane.lane-index _ _ _
    (omega arith) c.loop-lane.invariant
    (c.in_ok-push_epochs.ensures
    ∙ ap (λ (cells : List Cell). c.loop-lane.epochs.items ++ map (λ (cell : Cell). cell.epoch) cells) c.as_slice.ensures.value
    ∙ ap (λ (lane : Lane). c.loop-lane.epochs.items ++ map (λ (cell : Cell). cell.epoch) lane.cells.items) c.lane-item.is)
