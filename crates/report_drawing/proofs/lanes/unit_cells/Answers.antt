use Rattle.std.proofs.Common.{[], ap, ◌∙◌, arith}
use Rattle.report_drawing.specs.Lanes.{shown_of, entry_shown}
use Rattle.report_drawing.proofs.Lists.{shown_more, shown_all}
use Rattle.report_drawing.proofs.lanes.unit_cells.Goals as goal

pub loop-entry-preserved : goal.loop-entry-preserved
loop-entry-preserved c = shown_more shown_of (entry_shown c.args.image_clock) [] c.args.history.now c.loop-entry.entry-index _ _ _ _
    (omega arith) c.in_ok-push.ensures.items (c.in_ok-entry_cell.ensures ∙ ap (entry_shown c.args.image_clock) c.entry-item.is)
    c.loop-entry.invariant

pub returns : goal.returns
returns c = shown_all (entry_shown c.args.image_clock) [] c.args.history.now c.loop-entry.entry-index _ (omega arith)
    c.loop-entry.invariant
