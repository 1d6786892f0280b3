-- What an image holds of each unit.
use Rattle.std.specs.Prelude.{◌≡◌, ℕ, List, length, filter, slice_get, Some}
use Rattle.mont_base.specs.declared.record.Held.{Held}
use Rattle.mont_base.specs.Image.{IsRecovered, records_of, slots_of}
use Rattle.mont_base.specs.Layout.{Shape, units_of}
use Rattle.mont_base.specs.Versions.{live_objects}
use Rattle.plain.specs.States.{states_of}
use Rattle.scan.specs.declared.scanned.Scan.{Scan}
use Rattle.scan.specs.Scanned.{IsReadable, all_slots, is_lost, lost_among, records_among}
use Rattle.image_units.specs.declared.found.FoundImage.{FoundImage}
use Rattle.image_units.specs.declared.found.FoundUnit.{FoundUnit}
use Rattle.image_units.specs.FoundVersions.{HasNoRepeat}

-- the records of all units within the cut, by rising slot
abbrev pub all_records : Shape → List ℕ → List Held
all_records s image = records_among s image (all_slots s)

-- a unit's slots that are beyond the cut
abbrev pub lost_of : Shape → List ℕ → ℕ → List ℕ
lost_of s image unit = filter (is_lost image) (slots_of s unit)

pub record IsFoundUnit (s : Shape) (image : List ℕ) (unit : ℕ) (f : FoundUnit) : Type 0 where
  pub records : f.records ≡ records_of s image unit
  pub lost : f.lost ≡ lost_of s image unit
  pub objects : f.objects ≡ live_objects (records_of s image unit)

abbrev pub AreFoundUnits : Shape → List ℕ → List FoundUnit → Type 0
AreFoundUnits s image found =
    (unit : ℕ) (f : FoundUnit) → slice_get found unit ≡ Some f → IsFoundUnit s image unit f

pub record IsFoundImage (s : Shape) (image : List ℕ) (found : FoundImage) : Type 0 where
  pub many : length found.units ≡ units_of s
  pub each : AreFoundUnits s image found.units
  pub contents : IsRecovered s image (states_of found.contents)

-- all slots were scanned, each within the cut is read, and no version stands twice
pub record IsScanned (s : Shape) (image : List ℕ) (all : Scan) : Type 0 where
  pub records : all.records ≡ all_records s image
  pub lost : all.lost ≡ lost_among image (all_slots s)
  pub readable : IsReadable s image
  pub apart : HasNoRepeat (all_records s image)
