use Rattle.std.proofs.Common.{◌≡◌, ◌++◌, ℕ, List, take, map, string_bytes}
use Rattle.std.specs.List.{flat_map, enumerate_from}
use Rattle.report_drawing.specs.Folding.{Drawn, drawn_all}
use Rattle.report_drawing.specs.Svg.{stack_svg, start_of}
use Rattle.report_drawing.proofs.svg.push_stacks.Given as goal

abbrev pub invariant-loop-place : goal.invariant-loop-place
invariant-loop-place l = string_bytes l.svg ≡ string_bytes l.initial.svg
    ++ flat_map (λ (p : ℕ × List Drawn). stack_svg (start_of l.starts p.0) l.top p.1)
    (take l.place (enumerate_from 0 (map drawn_all l.stacks)))
