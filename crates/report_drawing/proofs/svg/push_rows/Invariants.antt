use Rattle.std.proofs.Common.{◌≡◌, ◌++◌, take, string_bytes}
use Rattle.std.specs.List.{flat_map}
use Rattle.report_drawing.proofs.Rows.{label_svg}
use Rattle.report_drawing.proofs.svg.push_rows.Given as goal

abbrev pub invariant-loop-label : goal.invariant-loop-label
invariant-loop-label l = string_bytes l.svg ≡ string_bytes l.initial.svg ++ flat_map (label_svg l.x) (take l.label-index l.labels)
