-- What is told of an image.
use Rattle.std.specs.Prelude.{◌≡◌, ◌↔◌, ℕ, Bool, true, false, List, []}
use Rattle.mont_base.specs.Image.{IsWellFormed, cut_of}
use Rattle.mont_base.specs.Layout.{Shape}
use Rattle.mont_image.specs.ImageReader.{parts_of}
use Rattle.mont_image.specs.ImageText.{IsTextOf, number_of_version}
use Rattle.image_units.specs.Found.{all_records}
use Rattle.old_image.specs.Migration.{IsOldWellFormed}
use Rattle.image_info.specs.declared.info.ImageInfo.{ImageInfo}
use Rattle.image_info.specs.UnitCounts.{AreAllCounts}
use Rattle.image_info.specs.EpochCounts.{AreEpochs}
use Rattle.image_info.specs.AllFaults.{all_faults}
use Rattle.image_info.specs.WideWords.{wide_of}

-- the version of a text, the image that it is of, and what that image holds
pub record IsInfoOf (text : List ℕ) (info : ImageInfo) : Type 0 where
  pub spelled : IsTextOf text (parts_of info.image)
  pub version : info.version ≡ number_of_version spelled.version
  pub cut : info.cut ≡ cut_of info.image.words
  pub units : AreAllCounts info.image.layout (wide_of info.image) info.units.items
  pub epochs : AreEpochs (all_records info.image.layout (wide_of info.image)) info.epochs.items
  pub faults : info.faults.items ≡ all_faults info.image.old info.image.layout (wide_of info.image)

-- an image that recovery accepts, by the bodies of its version
abbrev pub IsAccepted : Bool → Shape → List ℕ → Type 0
IsAccepted true s words = IsOldWellFormed s words
IsAccepted false s words = IsWellFormed s words

-- no fault is told exactly where recovery accepts the image
abbrev pub TellsAccepted : ImageInfo → Type 0
TellsAccepted info =
    (info.faults.items ≡ []) ↔ IsAccepted info.image.old info.image.layout info.image.words
