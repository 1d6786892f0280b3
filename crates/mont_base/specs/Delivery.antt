-- What a sink that fails may have taken of bytes that it is handed.
use Rattle.std.specs.Prelude.{ℕ, ◌≤◌, List, length, take, Option}
use Rattle.std.specs.Io.KnownBytes.{Appends}

-- some bytes from the front were taken, and no others
abbrev pub AppendsFront : Option (List ℕ) → Option (List ℕ) → List ℕ → Type 0
AppendsFront old new bytes = (n : ℕ) × (n ≤ length bytes) × Appends old new (take n bytes)
