-- What an image that a crash permits has of a slot.
use Rattle.std.specs.Prelude.{◌≡◌, ℕ, ◌<◌, ◌≤◌, ◌⊎◌, Bool, true, false, List, drop, slice_set, Some, None, if◌then◌else◌}
use Rattle.mont_base.specs.declared.record.Held.{Held}
use Rattle.mont_base.specs.Layout.{Shape, unit_of_slot}
use Rattle.mont_base.specs.Image.{IsPermitted, clock_of, cut_of, words_at, epoch_at, is_in_cut, record_at}
use Rattle.mont_laws.specs.SlotReadings.{held_words, IsRecordOf}

-- each slot's words are permitted, and the clock is the current or the durable one
pub record PermitsParts (cur dur image : List ℕ) : Type 0 where
  pub clock : (clock_of image ≡ clock_of cur) ⊎ (clock_of image ≡ clock_of dur)
  pub slots : (slot : ℕ)
      → IsPermitted (words_at cur slot) (words_at dur slot) (words_at image slot)

abbrev pub ImagesHaveParts : Type 0
ImagesHaveParts = (cur dur image : List ℕ)
    → IsPermitted cur dur image → PermitsParts cur dur image

-- ---- a slot that is closed or beyond the cut in both memories is read as nothing
abbrev pub IsOutside : ℕ → ℕ → Type 0
IsOutside cut epoch = (epoch ≡ 0) ⊎ (cut < epoch)

pub record LiesOutside (cut : ℕ) (cur dur : List ℕ) (slot : ℕ) : Type 0 where
  pub in_current : IsOutside cut (epoch_at cur slot)
  pub in_durable : IsOutside cut (epoch_at dur slot)

abbrev pub SlotsOutsideAreUnread : Type 0
SlotsOutsideAreUnread = (s : Shape) (cur dur image : List ℕ) (slot : ℕ)
    → IsPermitted cur dur image → LiesOutside (cut_of image) cur dur slot
    → record_at s image slot ≡ None

-- ---- an image that shows a record's epoch has all its words, where both memories have the others
pub record KeepsFields (cur dur : List ℕ) (slot : ℕ) (r : Held) : Type 0 where
  pub in_current : drop 1 (words_at cur slot) ≡ drop 1 (held_words r)
  pub in_durable : drop 1 (words_at dur slot) ≡ drop 1 (held_words r)

abbrev pub EpochsShowRecords : Type 0
EpochsShowRecords = (cur dur image : List ℕ) (slot : ℕ) (r : Held)
    → IsPermitted cur dur image → KeepsFields cur dur slot r → epoch_at image slot ≡ r.label.epoch
    → words_at image slot ≡ held_words r

-- ---- a record that stands in a slot
-- a slot is closed by its first word
abbrev pub closed_if : Bool → List ℕ → List ℕ
closed_if true words = slice_set words 0 0
closed_if false words = words

abbrev pub IsEpochOf : Held → ℕ → Type 0
IsEpochOf r epoch = (epoch ≡ 0) ⊎ (epoch ≡ r.label.epoch)

-- Its words are current, unless the slot was closed. Its epoch is durable or isn't, and where it
-- is within the cut all words of the record are durable.
pub record StandsAt (s : Shape) (cut : ℕ) (closed : Bool) (cur dur : List ℕ) (slot : ℕ) (r : Held)
    : Type 0 where
  pub valid : IsRecordOf (unit_of_slot s slot) r
  pub there : r.slot ≡ slot
  pub in_current : words_at cur slot ≡ closed_if closed (held_words r)
  pub durable_epoch : IsEpochOf r (epoch_at dur slot)
  pub in_durable : r.label.epoch ≤ cut → words_at dur slot ≡ held_words r

-- It is read where the image has the slot within its cut, as it has where the record's epoch is
-- within the cut and the slot wasn't closed.
pub record ReadsRecord (s : Shape) (closed : Bool) (image : List ℕ) (slot : ℕ) (r : Held)
    : Type 0 where
  pub words : is_in_cut image slot ≡ true → words_at image slot ≡ held_words r
  pub by_cut : record_at s image slot ≡ (if is_in_cut image slot then Some r else None)
  pub either : (record_at s image slot ≡ Some r) ⊎ (record_at s image slot ≡ None)
  pub whole : closed ≡ false → r.label.epoch ≤ cut_of image → record_at s image slot ≡ Some r
  pub beyond : cut_of image < r.label.epoch → record_at s image slot ≡ None

abbrev pub RecordsAreReadOrNothing : Type 0
RecordsAreReadOrNothing = (s : Shape) (closed : Bool) (cur dur image : List ℕ) (slot : ℕ) (r : Held)
    → IsPermitted cur dur image → StandsAt s (cut_of image) closed cur dur slot r
    → ReadsRecord s closed image slot r

-- a record that is durable word for word stands in its slot, also once the slot is closed
abbrev pub DurableRecordsStand : Type 0
DurableRecordsStand = (s : Shape) (cut : ℕ) (closed : Bool) (cur dur : List ℕ) (slot : ℕ) (r : Held)
    → IsRecordOf (unit_of_slot s slot) r → r.slot ≡ slot
    → words_at cur slot ≡ closed_if closed (held_words r) → words_at dur slot ≡ held_words r
    → StandsAt s cut closed cur dur slot r
