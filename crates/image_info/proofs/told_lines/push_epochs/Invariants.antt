use Rattle.std.proofs.Common.{◌≡◌, ◌++◌, take}
use Rattle.std.specs.List.{flat_map}
use Rattle.std.specs.String.{string_bytes}
use Rattle.image_info.specs.ToldLines.{epoch_line}
use Rattle.image_info.proofs.told_lines.push_epochs.Given as goal

-- the lines so far
abbrev pub invariant-loop-count : goal.invariant-loop-count
invariant-loop-count l = string_bytes l.text ≡ string_bytes l.initial.text ++ flat_map epoch_line (take l.count-index l.epochs)
