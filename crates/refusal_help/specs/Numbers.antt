-- Why a word spells no number of 64 bits.
use Rattle.std.specs.Prelude.{◌≡◌, ℕ, ◌<◌, ◌≤◌, ◌⊎◌, ◌^◌, Bool, true, false, List, length, slice_index}
use Rattle.std.specs.Char.{is_ascii_digit}
use Rattle.std.specs.List.{list_all}
use Rattle.std.specs.Str.Parse.{digits_value}
use Rattle.refusal_help.specs.declared.cause.NumberFault.{NumberFault}
use Rattle.refusal_help.specs.declared.cause.NumberFault.TheVariants as faults

-- whether each byte is a digit
abbrev pub are_digits : List ℕ → Bool
are_digits word = list_all is_ascii_digit word

-- a byte is no digit, or there is none; a zero stands in front of other digits; the digits are of a
-- number that is too large
abbrev pub IsNumberFault : List ℕ → NumberFault → Type 0
IsNumberFault word faults.NoDigits = (length word < 1) ⊎ (are_digits word ≡ false)
IsNumberFault word faults.LeadingZero =
    (are_digits word ≡ true) × (slice_index word 0 ≡ 48) × (1 < length word)
IsNumberFault word faults.TooLarge =
    (are_digits word ≡ true) × (2 ^ 64 ≤ digits_value 10 word)
