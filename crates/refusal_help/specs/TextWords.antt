-- How keys and values are spelled, and why a word spells none.
use Rattle.std.specs.Prelude.{◌≡◌, ◌≢◌, ℕ, ◌+◌, ◌/◌, ◌%◌, ◌<◌, ◌==◌, Bool, ◌&&◌, not, nat_le, nat_lt, List, [], ◌∷◌, ◌++◌, length, All, codes, if◌then◌else◌}
use Rattle.std.specs.List.{flat_map}
use Rattle.mont_base.specs.declared.constants.TheConstants.{TEXT_BYTES}
use Rattle.mont_base.specs.Texts.{IsText}
use Rattle.refusal_help.specs.declared.cause.TextFault.{TextFault}
use Rattle.refusal_help.specs.declared.cause.TextFault.TheVariants as faults

-- the digit of a number below 16
abbrev pub hex_digit : ℕ → ℕ
hex_digit n = if nat_lt n 10 then 48 + n else 87 + n

-- a byte that stands for itself: one that can be seen, but `%`
abbrev pub is_bare : ℕ → Bool
is_bare byte = nat_le 33 byte && nat_le byte 126 && not (byte == 37)

-- any other is `%` and two digits, that of the higher place first
abbrev pub byte_word : ℕ → List ℕ
byte_word byte =
    if is_bare byte then byte ∷ []
    else 37 ∷ hex_digit (byte / 16) ∷ hex_digit (byte % 16) ∷ []

-- the spellings of bytes, one after the other
abbrev pub bytes_word : List ℕ → List ℕ
bytes_word bytes = flat_map byte_word bytes

-- the empty text is `%` alone
abbrev pub text_word : List ℕ → List ℕ
text_word [] = codes "%"
text_word (byte ∷ bytes) = bytes_word (byte ∷ bytes)

abbrev pub IsTextWord : List ℕ → Type 0
IsTextWord word = (text : List ℕ) × IsText text × (word ≡ text_word text)

abbrev pub AreBytes : List ℕ → Type 0
AreBytes bytes = All (λ b. b < 256) bytes

-- Where the word is the spelling of bytes, and what follows begins with that of no byte.
pub record StopsAt (word : List ℕ) (at : ℕ) : Type 0 where
  pub bytes : List ℕ
  pub are_bytes : AreBytes bytes
  pub behind : List ℕ
  pub joined : word ≡ bytes_word bytes ++ behind
  pub counted : at + length behind ≡ length word
  pub none : (byte : ℕ) (after : List ℕ) → byte < 256 → behind ≢ byte_word byte ++ after

-- The word is the spelling of so many bytes, which are too many.
pub record IsLong (word : List ℕ) (count : ℕ) : Type 0 where
  pub bytes : List ℕ
  pub are_bytes : AreBytes bytes
  pub spelled : word ≡ bytes_word bytes
  pub counted : length bytes ≡ count
  pub long : TEXT_BYTES < count

abbrev pub IsTextFault : List ℕ → TextFault → Type 0
IsTextFault word faults.Empty = length word < 1
IsTextFault word (faults.NoByte at) = (word ≢ codes "%") × StopsAt word at
IsTextFault word (faults.Long bytes) = IsLong word bytes
