use Rattle.std.proofs.Common.{◌≡◌, not, take}
use Rattle.std.specs.List.{filter}
use Rattle.report_drawing.specs.Lanes.{is_lost}
use Rattle.report_drawing.proofs.columns.columns_at.Given as goal

-- those that are kept and those that are lost of the epochs so far
abbrev pub invariant-loop-epoch : goal.invariant-loop-epoch
invariant-loop-epoch l =
    (l.kept.items ≡ filter (λ e. not (is_lost l.image_clock e)) (take l.epoch-index l.epochs))
    × (l.lost.items ≡ filter (λ e. is_lost l.image_clock e) (take l.epoch-index l.epochs))
