use Rattle.std.proofs.Common.{◌≡◌, ◌++◌, take}
use Rattle.std.specs.List.{enumerate_from, flat_map}
use Rattle.std.specs.String.{string_bytes}
use Rattle.image_info.specs.ToldLines.{unit_words}
use Rattle.image_info.proofs.told_lines.push_kinds.Given as goal

-- the units so far
abbrev pub invariant-loop-unit : goal.invariant-loop-unit
invariant-loop-unit l = string_bytes l.text ≡ string_bytes l.initial.text
    ++ flat_map (unit_words l.slots) (take l.unit (enumerate_from 0 l.kinds))
