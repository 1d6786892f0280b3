-- The kinds and the mask of a header, and why a word spells none.
use Rattle.std.specs.Prelude.{◌≡◌, ◌≢◌, ℕ, ◌<◌, ◌⊎◌, List, length, slice_get, Some}
use Rattle.mont_base.specs.declared.constants.TheConstants.{MOST_UNITS}
use Rattle.mont_base.specs.declared.kinds.UnitKind.{UnitKind}
use Rattle.mont_base.specs.Layout.{letter_of}
use Rattle.refusal_help.specs.declared.limits.TheConstants.{MASK_DIGITS}
use Rattle.refusal_help.specs.declared.cause.KindsFault.{KindsFault}
use Rattle.refusal_help.specs.declared.cause.KindsFault.TheVariants as kinds
use Rattle.refusal_help.specs.declared.cause.MaskFault.{MaskFault}
use Rattle.refusal_help.specs.declared.cause.MaskFault.TheVariants as masks
use Rattle.refusal_help.specs.TextWords.{hex_digit}

-- a byte that is the letter of a kind
abbrev pub IsLetter : ℕ → Type 0
IsLetter byte = (kind : UnitKind) × (byte ≡ letter_of kind)

-- a byte that is a digit in base 16
abbrev pub IsHexDigit : ℕ → Type 0
IsHexDigit byte = (n : ℕ) × (n < 16) × (byte ≡ hex_digit n)

-- the bytes before a place are of this sort
abbrev pub AreBefore : (ℕ → Type 0) → List ℕ → ℕ → Type 0
AreBefore Is word at = (k byte : ℕ) → k < at → slice_get word k ≡ Some byte → Is byte

-- the first byte that isn't of this sort
pub record IsFirstOther (Is : ℕ → Type 0) (word : List ℕ) (at : ℕ) : Type 0 where
  pub byte : ℕ
  pub there : slice_get word at ≡ Some byte
  pub other : ¬ Is byte
  pub before : AreBefore Is word at

pub record AreKinds (word : List ℕ) : Type 0 where
  pub some : 0 < length word
  pub few : ¬ (MOST_UNITS < length word)
  pub letters : AreBefore IsLetter word (length word)

abbrev pub IsKindsFault : List ℕ → KindsFault → Type 0
IsKindsFault word (kinds.Count count) =
    (count ≡ length word) × ((count < 1) ⊎ (MOST_UNITS < count))
IsKindsFault word (kinds.Letter at) = IsFirstOther IsLetter word at

pub record IsMask (word : List ℕ) : Type 0 where
  pub long : length word ≡ MASK_DIGITS
  pub digits : AreBefore IsHexDigit word (length word)

abbrev pub IsMaskFault : List ℕ → MaskFault → Type 0
IsMaskFault word (masks.Count count) = (count ≡ length word) × (count ≢ MASK_DIGITS)
IsMaskFault word (masks.Digit at) = IsFirstOther IsHexDigit word at
