use Rattle.std.proofs.Common.{◌≡◌, ◌++◌, drop, string_bytes}
use Rattle.report_drawing.specs.Svg.{strips_svg}
use Rattle.report_drawing.proofs.svg.push_strips.Given as goal

-- what is written with what is left is the whole
abbrev pub invariant-loop-strip : goal.invariant-loop-strip
invariant-loop-strip l = string_bytes l.svg ++ strips_svg l.starts l.at (drop l.strip-index l.strips)
    ≡ string_bytes l.initial.svg ++ strips_svg l.starts l.top l.strips
