-- What is read of the text of an image.
use Rattle.std.specs.Prelude.{◌≡◌, ◌⊎◌, ℕ, List, true, false, Some, Err}
use Rattle.mont_base.specs.Image.{clock_of}
use Rattle.mont_image.specs.declared.image_refusal.ImageRefusal.{ImageRefusal}
use Rattle.mont_image.specs.declared.stored_image.Image.{Image}
use Rattle.mont_image.specs.ImageText.{ImageParts, IsTextOf, image_in}
use Rattle.image_units.specs.declared.image_fault.ImageFault.{ImageFault}
use Rattle.image_units.specs.declared.recovery_refusal.RecoverRefusal.{RecoverRefusal}
use Rattle.image_units.specs.Refusals.{fault_of_bytes, fault_of_words}
use Rattle.old_image.specs.Migration.{IsOldFirstRefusal, KeepsStructures}
use Rattle.recovery_cases.specs.declared.now.ReadImage.{ReadImage}
use Rattle.recovery_cases.specs.declared.now.ReadImage.TheVariants.{Faulty, Now}

-- the first fault of the bytes
pub record IsFaultOfBytes (text : List ℕ) (fault : ImageFault) : Type 0 where
  pub refusal : ImageRefusal
  pub refused : image_in text ≡ Err refusal
  pub told : fault_of_bytes refusal ≡ Some fault

-- the first fault of what an image of the first version holds
pub record IsFaultOfOld (text : List ℕ) (fault : ImageFault) : Type 0 where
  pub parts : ImageParts
  pub spelled : IsTextOf text parts
  pub old : parts.old ≡ true
  pub refusal : RecoverRefusal
  pub first : IsOldFirstRefusal parts.layout parts.words refusal
  pub told : fault_of_words refusal ≡ Some fault

-- the image of the text, or what it is migrated to where it is of the first version
pub record IsNowOf (text : List ℕ) (image : Image) : Type 0 where
  pub parts : ImageParts
  pub spelled : IsTextOf text parts
  pub new : image.old ≡ false
  pub layout : image.layout ≡ parts.layout
  pub clock : clock_of image.words ≡ clock_of parts.words
  pub same : parts.old ≡ false → image.words ≡ parts.words
  pub migrated : parts.old ≡ true → KeepsStructures parts.layout parts.words image.words

abbrev pub IsReadAs : List ℕ → ReadImage → Type 0
IsReadAs text (Faulty fault) = IsFaultOfBytes text fault ⊎ IsFaultOfOld text fault
IsReadAs text (Now image) = IsNowOf text image
