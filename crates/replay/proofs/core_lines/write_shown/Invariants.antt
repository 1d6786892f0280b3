use Rattle.std.proofs.Common.{◌≡◌, ◌∷◌, ◌++◌, take}
use Rattle.std.specs.String.{string_bytes}
use Rattle.std.specs.List.{flat_map, enumerate_from}
use Rattle.replay.specs.Replays.{unit_words}
use Rattle.replay.proofs.core_lines.write_shown.Given as goal

-- so many units were written
abbrev pub invariant-loop-unit : goal.invariant-loop-unit
invariant-loop-unit l =
    string_bytes l.text ≡ string_bytes l.initial.text
    ++ flat_map (λ p. flat_map (λ word. 32 ∷ word) (unit_words l.told p)) (take l.unit (enumerate_from 0 l.units))
