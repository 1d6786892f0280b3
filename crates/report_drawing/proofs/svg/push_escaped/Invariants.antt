use Rattle.std.proofs.Common.{◌≡◌, ◌++◌, take, string_bytes}
use Rattle.report_drawing.specs.Svg.{escaped}
use Rattle.report_drawing.proofs.svg.push_escaped.Given as goal

abbrev pub invariant-loop-byte : goal.invariant-loop-byte
invariant-loop-byte l = string_bytes l.svg ≡ string_bytes l.initial.svg ++ escaped (take l.byte-index l.bytes)
