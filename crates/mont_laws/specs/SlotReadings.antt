-- What the words of a slot are read as, and which words are read as a record.
use Rattle.std.specs.Prelude.{◌≡◌, ◌↔◌, ℕ, ◌≤◌, List, length, slice_index, Some, None, Ok}
use Rattle.mont_base.specs.declared.constants.TheConstants.{FIELDS, LAST}
use Rattle.mont_base.specs.declared.record.Held.{Held}
use Rattle.mont_base.specs.Record.{IsLabel, IsBody, slot_words, reading}

-- the words of a record's slot
abbrev pub held_words : Held → List ℕ
held_words r = slot_words r.label r.body

-- a record that a unit's slot may hold
pub record IsRecordOf (unit : ℕ) (r : Held) : Type 0 where
  pub label : IsLabel r.label
  pub of_unit : r.label.unit ≡ unit
  pub body : IsBody r.body

-- its words are as many as a slot has, and are read as its label and its body
pub record ReadsBack (unit : ℕ) (r : Held) : Type 0 where
  pub many : length (held_words r) ≡ FIELDS
  pub read : reading unit (held_words r) ≡ Ok (Some (r.label, r.body))

abbrev pub RecordsAreReadBack : Type 0
RecordsAreReadBack = (unit : ℕ) (r : Held) → IsRecordOf unit r → ReadsBack unit r

-- a record whose words these are, in whatever slot
pub record Spells (unit : ℕ) (words : List ℕ) (r : Held) : Type 0 where
  pub valid : IsRecordOf unit r
  pub shown : words ≡ held_words r

-- Words are read as nothing where the slot is closed, and as the label and the body of a record
-- where they spell it.
pub record ReadsWords (unit : ℕ) (words : List ℕ) : Type 0 where
  pub nothing : (reading unit words ≡ Ok None) ↔ (slice_index words 0 ≡ 0)
  pub some : (r : Held)
      → (reading unit words ≡ Ok (Some (r.label, r.body))) ↔ Spells unit words r

abbrev pub WordsSpellWhatIsRead : Type 0
WordsSpellWhatIsRead = (unit : ℕ) (words : List ℕ)
    → length words ≡ FIELDS → slice_index words 0 ≤ LAST → ReadsWords unit words
