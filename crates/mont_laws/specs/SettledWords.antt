-- Words that are current and durable alike, as a store begins with them.
use Rattle.std.specs.Prelude.{◌≡◌, ◌↔◌, ℕ, ◌*◌, ◌<◌, ◌≤◌, List, [], ◌∷◌, length, replicate, Some, None}
use Rattle.mont_base.specs.declared.constants.TheConstants.{FIELDS, FIRST_CLOCK}
use Rattle.mont_base.specs.declared.record.Held.{Held}
use Rattle.mont_base.specs.Layout.{Shape, IsLayout, units_of, total_of, words_of, unit_of_slot}
use Rattle.mont_base.specs.Image.{IsPermitted, clock_of, cut_of, words_at, epoch_at, record_at, records_of, IsWellFormed, IsRecovered, empty_states}
use Rattle.mont_laws.specs.SlotReadings.{Spells}
use Rattle.mont_laws.specs.SlotImages.{IsOutside}
use Rattle.mont_laws.specs.UnitRecords.{AreInSlots}

-- a crash leaves such words as they are
abbrev pub SettledWordsStay : Type 0
SettledWordsStay = (words image : List ℕ) → IsPermitted words words image → image ≡ words

-- ---- a slot of an image that recovery accepts has a record, or is closed or beyond the cut
pub record HasRecord (s : Shape) (image : List ℕ) (slot : ℕ) (r : Held) : Type 0 where
  pub spelled : Spells (unit_of_slot s slot) (words_at image slot) r
  pub there : r.slot ≡ slot
  pub within : r.label.epoch ≤ cut_of image

pub record ReadsSlot (s : Shape) (image : List ℕ) (slot : ℕ) : Type 0 where
  pub some : (r : Held) → (record_at s image slot ≡ Some r) ↔ HasRecord s image slot r
  pub none : (record_at s image slot ≡ None) ↔ IsOutside (cut_of image) (epoch_at image slot)

abbrev pub WellFormedSlotsAreRead : Type 0
WellFormedSlotsAreRead = (s : Shape) (image : List ℕ) (slot : ℕ)
    → IsWellFormed s image → slot < total_of s → ReadsSlot s image slot

-- what recovery lists of a unit stands in the unit's slots, and none is closing
abbrev pub WellFormedRecordsStand : Type 0
WellFormedRecordsStand = (s : Shape) (image : List ℕ) (unit : ℕ)
    → IsWellFormed s image → unit < units_of s
    → AreInSlots s (cut_of image) (records_of s image unit) None image image unit

-- ---- a store that was never used
abbrev pub empty_words : Shape → List ℕ
empty_words s = FIRST_CLOCK ∷ replicate (FIELDS * total_of s) 0

pub record IsEmptyStore (s : Shape) (words : List ℕ) : Type 0 where
  pub size : length words ≡ words_of s
  pub clock : clock_of words ≡ FIRST_CLOCK
  pub closed : (slot : ℕ) → epoch_at words slot ≡ 0
  pub slots : (slot : ℕ) → slot < total_of s → words_at words slot ≡ replicate FIELDS 0
  pub records : (unit : ℕ) → records_of s words unit ≡ []
  pub well_formed : IsWellFormed s words
  pub recovered : IsRecovered s words (empty_states s)

abbrev pub EmptyWordsAreAStore : Type 0
EmptyWordsAreAStore = (s : Shape) → IsLayout s → IsEmptyStore s (empty_words s)
