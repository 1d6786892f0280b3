-- What a source has lost of which bytes were read.
use Rattle.std.specs.Prelude.{◌≡◌, ℕ, ◌≤◌, List, length, drop, Option, Some, None}
use Rattle.std.specs.Io.KnownBytes.{Consumes}

-- some of its first bytes, at most so many
abbrev pub LosesAtMost : ℕ → Option (List ℕ) → Option (List ℕ) → Type 0
LosesAtMost most old new = (bytes : List ℕ) × (length bytes ≤ most) × Consumes old new bytes

-- its first bytes, so many or all that there were
abbrev pub LosesFirst : ℕ → Option (List ℕ) → Option (List ℕ) → Type 0
LosesFirst count None new = Unit {0}
LosesFirst count (Some bytes) None = ⊥
LosesFirst count (Some bytes) (Some rest) = rest ≡ drop count bytes
