use Rattle.std.proofs.Common.{List, subst, arith}
use Rattle.report_drawing.specs.declared.folding.Strip.{Strip}
use Rattle.report_drawing.specs.declared.lanes.Lane.{Lane}
use Rattle.report_drawing.specs.Lanes.{Shown, cells_of}
use Rattle.report_drawing.specs.Folding.{AreStacks, stacks_drawn}
use Rattle.report_drawing.proofs.Lists.{along_shown, along_shown_all}
use Rattle.report_drawing.proofs.folding.strips_of.Goals as goal

pub loop-lane-preserved : goal.loop-lane-preserved
loop-lane-preserved c = along_shown (λ (lane : List Shown) (strip : Strip). AreStacks c.args.columns.now lane (stacks_drawn strip)) cells_of
    c.args.lanes.now c.loop-lane.lane-index _ _ _ _ (omega arith) c.in_ok-push.ensures.items
    (subst (λ (lane : Lane). AreStacks c.args.columns.now (cells_of lane) (stacks_drawn c.in_ok-strip_of.field-0)) c.lane-item.is
    c.in_ok-strip_of.ensures)
    c.loop-lane.invariant

pub returns : goal.returns
returns c = along_shown_all (λ (lane : List Shown) (strip : Strip). AreStacks c.args.columns.now lane (stacks_drawn strip)) cells_of
    c.args.lanes.now c.loop-lane.lane-index _ (omega arith) c.loop-lane.invariant
