-- The bytes of a line: what may stand, and the first that may not.
use Rattle.std.specs.Prelude.{◌≡◌, ◌≢◌, ℕ, ◌+◌, ◌<◌, ◌≤◌, ◌⊎◌, List, length, slice_index}
use Rattle.refusal_help.specs.declared.cause.Cause.{Cause}
use Rattle.refusal_help.specs.declared.cause.Cause.TheVariants as causes

-- a space, or ASCII that can be seen
abbrev pub IsPlain : ℕ → Type 0
IsPlain byte = (32 ≤ byte) × (byte ≤ 126)

-- a space at an end of the line, or before another
abbrev pub IsLoose : List ℕ → ℕ → Type 0
IsLoose line at =
    (slice_index line at ≡ 32)
    × ((at ≡ 0) ⊎ ((at + 1 ≡ length line) ⊎ (slice_index line (at + 1) ≡ 32)))

abbrev pub ArePlainTo : List ℕ → ℕ → Type 0
ArePlainTo line at = (k : ℕ) → k < at → IsPlain (slice_index line k)

abbrev pub NoneLooseTo : List ℕ → ℕ → Type 0
NoneLooseTo line at = (k : ℕ) → k < at → ¬ IsLoose line k

-- The line has bytes, and doesn't begin as a comment; all of them are ASCII that can be seen or
-- spaces, each of which stands between two words.
pub record IsClean (line : List ℕ) : Type 0 where
  pub some : 0 < length line
  pub no_comment : slice_index line 0 ≢ 35
  pub plain : ArePlainTo line (length line)
  pub spaced : NoneLooseTo line (length line)

-- the first byte that isn't plain
pub record IsFirstByte (line : List ℕ) (at byte : ℕ) : Type 0 where
  pub within : at < length line
  pub there : slice_index line at ≡ byte
  pub other : ¬ IsPlain byte
  pub before : ArePlainTo line at

-- the first space that doesn't stand between two words
pub record IsFirstLoose (line : List ℕ) (at : ℕ) : Type 0 where
  pub within : at < length line
  pub loose : IsLoose line at
  pub plain : ArePlainTo line (length line)
  pub before : NoneLooseTo line at

abbrev pub IsLineFault : List ℕ → Cause → Type 0
IsLineFault line causes.Blank = length line < 1
IsLineFault line causes.Comment = (0 < length line) × (slice_index line 0 ≡ 35)
IsLineFault line (causes.Byte at byte) = IsFirstByte line at byte
IsLineFault line (causes.Space at) = IsFirstLoose line at
IsLineFault line _ = ⊥
