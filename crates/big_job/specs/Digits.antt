-- Digits read as a number.
use Rattle.std.specs.Prelude.{ℕ, ◌+◌, ◌-◌, ◌*◌, List}
use Rattle.std.specs.List.{fold}

-- the number that these digits spell, that of the highest place first
abbrev pub number_spelled : List ℕ → ℕ
number_spelled digits = fold (λ number digit. number * 10 + (digit - 48)) 0 digits
