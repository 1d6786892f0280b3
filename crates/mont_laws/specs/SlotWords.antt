-- Where the words of a slot lie, and what a store of one word changes.
use Rattle.std.specs.Prelude.{◌≡◌, ◌≢◌, ◌↔◌, ℕ, ◌<◌, ◌≤◌, List, length, slice_index, slice_set, AllPairs}
use Rattle.std.specs.List.{Contains}
use Rattle.mont_base.specs.declared.constants.TheConstants.{FIELDS}
use Rattle.mont_base.specs.Layout.{Shape, units_of, total_of, words_of, word_of, unit_of_slot}
use Rattle.mont_base.specs.Image.{words_at, clock_of, epoch_at, slots_of}

-- ---- where words lie
pub record LiesAt (words : List ℕ) (slot field : ℕ) : Type 0 where
  pub behind_clock : 1 ≤ word_of slot field
  pub inside : word_of slot field < length words
  pub value : slice_index (words_at words slot) field ≡ slice_index words (word_of slot field)

pub record HasWords (words : List ℕ) (slot : ℕ) : Type 0 where
  pub many : length (words_at words slot) ≡ FIELDS
  pub first : epoch_at words slot ≡ slice_index (words_at words slot) 0
  pub each : (field : ℕ) → field < FIELDS → LiesAt words slot field

abbrev pub SlotsHaveWords : Type 0
SlotsHaveWords = (s : Shape) (words : List ℕ) (slot : ℕ)
    → length words ≡ words_of s → slot < total_of s → HasWords words slot

-- a word after the clock, by the one slot and the one field that it belongs to
pub record IsWordOf (s : Shape) (word slot field : ℕ) : Type 0 where
  pub in_store : slot < total_of s
  pub in_slot : field < FIELDS
  pub place : word ≡ word_of slot field
  pub only : (other other_field : ℕ) → other_field < FIELDS → word ≡ word_of other other_field
      → (other ≡ slot) × (other_field ≡ field)

abbrev pub WordsHaveSlots : Type 0
WordsHaveSlots = (s : Shape) (word : ℕ) → 1 ≤ word → word < words_of s
    → (slot : ℕ) × (field : ℕ) × IsWordOf s word slot field

-- words are the same where their clocks and all their slots are
abbrev pub SlotsMakeWords : Type 0
SlotsMakeWords = (s : Shape) (words others : List ℕ)
    → length words ≡ words_of s → length others ≡ words_of s → clock_of words ≡ clock_of others
    → ((slot : ℕ) → slot < total_of s → words_at words slot ≡ words_at others slot)
    → words ≡ others

-- ---- what a store changes: one field of one slot, and neither another slot nor the clock
pub record ChangesField (words after : List ℕ) (slot field value : ℕ) : Type 0 where
  pub own : words_at after slot ≡ slice_set (words_at words slot) field value
  pub others : (other : ℕ) → other ≢ slot → words_at after other ≡ words_at words other
  pub clock : clock_of after ≡ clock_of words

abbrev pub StoresChangeOneField : Type 0
StoresChangeOneField = (words : List ℕ) (slot field value : ℕ) → field < FIELDS
    → ChangesField words (slice_set words (word_of slot field) value) slot field value

-- or the clock, and no slot
pub record ChangesClock (words after : List ℕ) (value : ℕ) : Type 0 where
  pub clock : clock_of after ≡ value
  pub slots : (slot : ℕ) → words_at after slot ≡ words_at words slot

abbrev pub ClockStoresChangeClock : Type 0
ClockStoresChangeClock = (words : List ℕ) (value : ℕ)
    → 1 ≤ length words → ChangesClock words (slice_set words 0 value) value

-- ---- which slots are a unit's
pub record SpansUnit (s : Shape) (unit : ℕ) : Type 0 where
  pub many : length (slots_of s unit) ≡ s.slots
  pub rising : AllPairs (λ (slot next : ℕ). slot < next) (slots_of s unit)
  pub members : (slot : ℕ) → Contains (slots_of s unit) slot ↔ (unit_of_slot s slot ≡ unit)

abbrev pub UnitsHaveSlots : Type 0
UnitsHaveSlots = (s : Shape) (unit : ℕ) → 1 ≤ s.slots → SpansUnit s unit

-- a slot is one of the store where its unit is
abbrev pub SlotsHaveUnits : Type 0
SlotsHaveUnits = (s : Shape) (slot : ℕ)
    → 1 ≤ s.slots → (slot < total_of s) ↔ (unit_of_slot s slot < units_of s)
