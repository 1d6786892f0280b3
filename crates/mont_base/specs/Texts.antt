-- Keys and values, which are texts of bytes, and the words that hold one.
use Rattle.std.specs.Prelude.{ℕ, ◌<◌, ◌≤◌, ◌==◌, Bool, ◌&&◌, nat_le, List, [], ◌∷◌, ◌++◌, length, take, drop, All, Option, Some, None, if◌then◌else◌}
use Rattle.std.specs.Int.{w64, to_le_bytes, from_le_bytes}
use Rattle.std.specs.declared.cmp.Ordering.{Ordering}
use Rattle.std.specs.Ordering.{nat_cmp, eq_by_cmp}
use Rattle.std.specs.Cmp.Lexicographic.{slice_cmp}
use Rattle.std.specs.List.{list_all}
use Rattle.mont_base.specs.declared.constants.TheConstants.{TEXT_BYTES}

-- a text has few bytes
pub record IsText (text : List ℕ) : Type 0 where
  pub short : length text ≤ TEXT_BYTES
  pub bytes : All (λ b. b < 256) text

-- texts stand in the order of lists: the first byte that differs decides, and a front comes before
-- the whole
abbrev pub text_cmp : List ℕ → List ℕ → Ordering
text_cmp = slice_cmp nat_cmp

abbrev pub same_text : List ℕ → List ℕ → Bool
same_text = eq_by_cmp text_cmp

-- The three words that hold the bytes of a text, eight to a word and the lowest byte of a word
-- first. After the end of the text their bytes are 0.
unfoldable pub byte_words : List ℕ → List ℕ
byte_words text =
    from_le_bytes w64 text ∷ from_le_bytes w64 (drop 8 text) ∷ from_le_bytes w64 (drop 16 text) ∷ []

-- its four words: its length and these three
abbrev pub text_words : List ℕ → List ℕ
text_words text = length text ∷ byte_words text

unfoldable pub bytes_of_words : ℕ → ℕ → ℕ → List ℕ
bytes_of_words a b c = to_le_bytes w64 a ++ (to_le_bytes w64 b ++ to_le_bytes w64 c)

abbrev pub are_zero : List ℕ → Bool
are_zero words = list_all (λ w. w == 0) words

-- the text of so many of these bytes, if that isn't too many and all after them are 0
abbrev pub text_of_bytes : ℕ → List ℕ → Option (List ℕ)
text_of_bytes len bytes =
    if nat_le len TEXT_BYTES && are_zero (drop len bytes) then Some (take len bytes) else None

-- the text of four words, if they are those of one
abbrev pub text_of_words : ℕ → ℕ → ℕ → ℕ → Option (List ℕ)
text_of_words len a b c = text_of_bytes len (bytes_of_words a b c)
