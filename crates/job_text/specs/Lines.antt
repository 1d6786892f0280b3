-- Lines of words.
use Rattle.std.specs.Prelude.{◌≡◌, ℕ, ◌+◌, ◌<◌, ◌⊎◌, ◌==◌, List, [], ◌∷◌, ◌++◌, length, slice_index_or}
use Rattle.std.specs.List.{flat_map, join_with_byte, slice_split}

-- words are separated by one space
abbrev pub spaced : List (List ℕ) → List ℕ
spaced words = join_with_byte 32 words

-- a line is ended by one line feed
abbrev pub line_of : List (List ℕ) → List ℕ
line_of words = spaced words ++ 10 ∷ []

abbrev pub text_of : List (List (List ℕ)) → List ℕ
text_of lines = flat_map line_of lines

-- the parts of a text between its line feeds
abbrev pub parts_of : List ℕ → List (List ℕ)
parts_of text = slice_split (λ b. b == 10) text

-- the bytes of a line, counted from 0, without its line feed
abbrev pub line_at : List ℕ → ℕ → List ℕ
line_at text i = slice_index_or (parts_of text) i []

-- a line feed ends the line
abbrev pub IsEnded : List ℕ → ℕ → Type 0
IsEnded text i = i + 1 < length (parts_of text)

-- the last line, which goes on after the last line feed or is the only one
abbrev pub IsLastLine : List ℕ → ℕ → Type 0
IsLastLine text i = (i + 1 ≡ length (parts_of text)) × ((0 < length (line_at text i)) ⊎ (i ≡ 0))

-- a text has a line for each line feed, and one more where it goes on after the last of them;
-- where it is empty it has one line, which isn't ended
abbrev pub HasLine : List ℕ → ℕ → Type 0
HasLine text i = IsEnded text i ⊎ IsLastLine text i
