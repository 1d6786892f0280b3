use Rattle.std.proofs.Common.{◌≡◌, ◌++◌, ℕ, take, length}
use Rattle.std.specs.List.{enumerate_from, flat_map, zip}
use Rattle.std.specs.String.{string_bytes}
use Rattle.mont_base.specs.declared.kinds.UnitKind.{UnitKind}
use Rattle.image_info.specs.declared.unit_counts.UnitCounts.{UnitCounts}
use Rattle.image_info.specs.ToldLines.{unit_line}
use Rattle.image_info.proofs.told_lines.push_units.Given as goal

-- the lines so far
abbrev pub invariant-loop-unit : goal.invariant-loop-unit
invariant-loop-unit l = string_bytes l.text ≡ string_bytes l.initial.text
    ++ flat_map (λ (e : ℕ × (UnitKind × UnitCounts)). unit_line e.0 e.1.0 e.1.1)
    (take (length l.yielded) (enumerate_from 0 (zip l.kinds l.units)))
