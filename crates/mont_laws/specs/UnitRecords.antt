-- Recovery's list of a unit's records, by its members.
use Rattle.std.specs.Prelude.{◌≡◌, ◌≢◌, ◌↔◌, ℕ, ◌<◌, ◌≤◌, ◌⊎◌, Bool, true, List, AllPairs, Option, Some}
use Rattle.std.specs.List.{Contains}
use Rattle.mont_base.specs.declared.record.Held.{Held}
use Rattle.mont_base.specs.Layout.{Shape, unit_of_slot}
use Rattle.mont_base.specs.Image.{IsPermitted, cut_of, words_at, is_in_cut, record_at, records_of, IsRead, DiffersFrom}
use Rattle.mont_base.specs.Record.{reading}
use Rattle.mont_laws.specs.Records.{AreSameRecords, cut_records, without_slot}
use Rattle.mont_laws.specs.SlotImages.{LiesOutside, StandsAt}

-- ---- the list has what the unit's slots are read as, and stands by rising slot
abbrev pub IsReadAt : Shape → List ℕ → ℕ → Held → Type 0
IsReadAt s image unit r =
    (unit_of_slot s r.slot ≡ unit) × (record_at s image r.slot ≡ Some r)

abbrev pub HasLowerSlot : Held → Held → Type 0
HasLowerSlot r q = r.slot < q.slot

pub record ListsRecords (s : Shape) (image : List ℕ) (unit : ℕ) (records : List Held) : Type 0 where
  pub members : (r : Held) → Contains records r ↔ IsReadAt s image unit r
  pub rising : AllPairs HasLowerSlot records

abbrev pub RecordsAreListed : Type 0
RecordsAreListed = (s : Shape) (image : List ℕ) (unit : ℕ)
    → 1 ≤ s.slots → ListsRecords s image unit (records_of s image unit)

-- no other list does
abbrev pub RecordsAreListedOnce : Type 0
RecordsAreListedOnce = (s : Shape) (image : List ℕ) (unit : ℕ) (records : List Held)
    → 1 ≤ s.slots → ListsRecords s image unit records → records_of s image unit ≡ records

-- images that are read alike at each slot of the unit give one list
abbrev pub AreReadAlike : Shape → List ℕ → List ℕ → ℕ → Type 0
AreReadAlike s image other unit = (slot : ℕ)
    → unit_of_slot s slot ≡ unit → record_at s image slot ≡ record_at s other slot

abbrev pub AlikeImagesGiveOneList : Type 0
AlikeImagesGiveOneList = (s : Shape) (image other : List ℕ) (unit : ℕ)
    → 1 ≤ s.slots → AreReadAlike s image other unit
    → records_of s image unit ≡ records_of s other unit

-- ---- what an image has of a unit's records, in whatever order these stand
-- A slot without a record is closed, or beyond the cut.
pub record HasNone (cut : ℕ) (records : List Held) (cur dur : List ℕ) (slot : ℕ) : Type 0 where
  pub none : (r : Held) → Contains records r → r.slot ≢ slot
  pub outside : LiesOutside cut cur dur slot

-- In any other slot one record stands, which was closed only where the slot is the closing one.
pub record HasOne (s : Shape) (cut : ℕ) (records : List Held) (closing : Option ℕ)
    (cur dur : List ℕ) (slot : ℕ) : Type 0 where
  pub held : Held
  pub listed : Contains records held
  pub only : (r : Held) → Contains records r → r.slot ≡ slot → r ≡ held
  pub closed : Bool
  pub closes : closed ≡ true → closing ≡ Some slot
  pub stands : StandsAt s cut closed cur dur slot held

pub record AreInSlots (s : Shape) (cut : ℕ) (records : List Held) (closing : Option ℕ)
    (cur dur : List ℕ) (unit : ℕ) : Type 0 where
  pub of_unit : (r : Held) → Contains records r → unit_of_slot s r.slot ≡ unit
  pub each : (slot : ℕ) → unit_of_slot s slot ≡ unit
      → HasNone cut records cur dur slot ⊎ HasOne s cut records closing cur dur slot

-- What is read are the records up to the cut, or these without the closing one.
abbrev pub IsWithoutClosing : ℕ → List Held → Option ℕ → List Held → Type 0
IsWithoutClosing cut records closing read = (slot : ℕ) × (closing ≡ Some slot)
    × AreSameRecords read (cut_records cut (without_slot slot records))

abbrev pub IsCutOf : ℕ → List Held → Option ℕ → List Held → Type 0
IsCutOf cut records closing read =
    AreSameRecords read (cut_records cut records) ⊎ IsWithoutClosing cut records closing read

-- So each slot within the image's cut is read, and no version of the unit stands twice.
pub record ReadsUnit (s : Shape) (records : List Held) (closing : Option ℕ) (image : List ℕ)
    (unit : ℕ) : Type 0 where
  pub readable : (slot : ℕ) → unit_of_slot s slot ≡ unit → is_in_cut image slot ≡ true
      → IsRead (reading unit (words_at image slot))
  pub cut : IsCutOf (cut_of image) records closing (records_of s image unit)
  pub apart : AllPairs DiffersFrom records → AllPairs DiffersFrom (records_of s image unit)

abbrev pub ImagesHaveCuts : Type 0
ImagesHaveCuts = (s : Shape) (records : List Held) (closing : Option ℕ)
    (cur dur image : List ℕ) (unit : ℕ)
    → 1 ≤ s.slots → IsPermitted cur dur image
    → AreInSlots s (cut_of image) records closing cur dur unit
    → ReadsUnit s records closing image unit
