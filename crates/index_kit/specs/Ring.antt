-- Places in a ring, in which the first comes after the last.
use Rattle.std.specs.Prelude.{ℕ, ◌+◌, ◌-◌, ◌==◌, nat_le, if◌then◌else◌}

-- the place after another
abbrev pub place_behind : ℕ → ℕ → ℕ
place_behind size at = if at + 1 == size then 0 else at + 1

-- how many places on from one the other is
unfoldable pub steps : ℕ → ℕ → ℕ → ℕ
steps size from to = if nat_le from to then to - from else (size - from) + to
