-- The lines of a text, and what is wrong with one before its words are looked at.
use Rattle.std.specs.Prelude.{◌≡◌, ℕ, ◌+◌, ◌<◌, ◌≤◌, ◌==◌, Bool, false, List, [], length, slice_get, Option, Some, None}
use Rattle.std.specs.List.{slice_split}
use Rattle.refusal_help.specs.declared.limits.TheConstants.{MOST_LINES}
use Rattle.refusal_help.specs.declared.cause.Cause.{Cause}
use Rattle.refusal_help.specs.declared.cause.Cause.TheVariants as causes

-- the parts of a text between its line feeds
abbrev pub parts_of : List ℕ → List (List ℕ)
parts_of text = slice_split (λ b. b == 10) text

abbrev pub or_empty : Option (List ℕ) → List ℕ
or_empty None = []
or_empty (Some bytes) = bytes

-- the bytes of a line, counted from 0, without its line feed
abbrev pub line_of : List ℕ → ℕ → List ℕ
line_of text place = or_empty (slice_get (parts_of text) place)

-- a line feed ends the line
abbrev pub IsEnded : List ℕ → ℕ → Type 0
IsEnded text place = place + 1 < length (parts_of text)

-- a line too many; a long one; one that isn't ended
abbrev pub IsTextFault : List ℕ → Bool → ℕ → ℕ → Cause → Type 0
IsTextFault line ended number most (causes.Many lines) = (lines ≡ MOST_LINES) × (lines < number)
IsTextFault line ended number most (causes.Long bytes limit) =
    (bytes ≡ length line) × (limit ≡ most) × (limit < bytes)
IsTextFault line ended number most causes.Unended = (number ≤ MOST_LINES) × (length line ≤ most) × (ended ≡ false)
IsTextFault line ended number most _ = ⊥
