-- Where something first doesn't hold: at one number, or at two, of which the first goes before.
use Rattle.std.specs.Prelude.{ℕ, ◌<◌, Option, Some, None}

pub record IsLowest (Holds : ℕ → Type 0) (number : ℕ) : Type 0 where
  pub before : (n : ℕ) → n < number → Holds n
  pub fails : ¬ Holds number

pub record IsLowestPair (Holds : ℕ → ℕ → Type 0) (first second : ℕ) : Type 0 where
  pub lower : (m n : ℕ) → m < first → Holds m n
  pub before : (n : ℕ) → n < second → Holds first n
  pub fails : ¬ Holds first second

-- it holds everywhere
abbrev pub AllHold : (ℕ → ℕ → Type 0) → Type 0
AllHold Holds = (m n : ℕ) → Holds m n

-- what a search finds: the lowest, or nothing where it holds everywhere
abbrev pub IsFirst : (ℕ → Type 0) → Option ℕ → Type 0
IsFirst Holds None = (n : ℕ) → Holds n
IsFirst Holds (Some n) = IsLowest Holds n

abbrev pub IsFirstPair : (ℕ → ℕ → Type 0) → Option (ℕ × ℕ) → Type 0
IsFirstPair Holds None = AllHold Holds
IsFirstPair Holds (Some p) = IsLowestPair Holds p.0 p.1
