-- Where the words of the machine stand in the table: the current words, the durable words, and for
-- each unit its announcement, 64 bytes apart.
use Rattle.std.specs.Prelude.{ℕ, ◌+◌, ◌-◌, ◌*◌, ◌/◌, ◌%◌, List, [], ◌∷◌, ◌++◌}
use Rattle.mont_base.specs.declared.constants.TheConstants.{FIELDS}
use Rattle.mont_base.specs.Layout.{Shape, units_of, words_of}
use Rattle.core_steps.specs.declared.parts.Core.{Core}

-- seven words after each announcement are never used
abbrev pub spread : List ℕ → List ℕ
spread [] = []
spread (w ∷ ws) = w ∷ 0 ∷ 0 ∷ 0 ∷ 0 ∷ 0 ∷ 0 ∷ 0 ∷ spread ws

abbrev pub laid_out : List ℕ → List ℕ → List ℕ → List ℕ
laid_out cur dur told = cur ++ (dur ++ spread told)

abbrev pub table_words : Core → List ℕ
table_words c = laid_out c.cur c.dur c.told

-- the place of a durable word, and of an announcement
abbrev pub durable_place : Shape → ℕ → ℕ
durable_place s word = words_of s + word

abbrev pub announcement_place : Shape → ℕ → ℕ
announcement_place s u = 2 * words_of s + 8 * u

-- how many words and slots there are
abbrev pub word_count : Shape → ℕ
word_count s = 2 * words_of s + 8 * units_of s

abbrev pub list_count : Shape → ℕ
list_count s = 2 * units_of s

-- the slot and the field of a word of a slot
abbrev pub slot_at : ℕ → ℕ
slot_at word = (word - 1) / FIELDS

abbrev pub field_at : ℕ → ℕ
field_at word = (word - 1) % FIELDS
