use Rattle.std.proofs.Common.{◌≡◌, ◌++◌, take, map}
use Rattle.report_drawing.specs.Columns.{single}
use Rattle.report_drawing.proofs.columns.push_single.Given as goal

abbrev pub invariant-loop-epoch : goal.invariant-loop-epoch
invariant-loop-epoch l = l.columns.items ≡ l.initial.columns.items ++ map (single l.lost) (take l.epoch-index l.epochs)
