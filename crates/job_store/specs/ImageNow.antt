-- An image as images are now: one of the first version is migrated before it is recovered.
use Rattle.std.specs.Prelude.{◌≡◌, ℕ, Bool, true, false, List}
use Rattle.mont_base.specs.Image.{IsWellFormed, clock_of}
use Rattle.mont_base.specs.Layout.{Shape}
use Rattle.image_units.specs.declared.recovery_refusal.RecoverRefusal.{RecoverRefusal}
use Rattle.image_units.specs.FirstRefusal.{IsFirstRefusal}
use Rattle.mont_image.specs.declared.stored_image.Image.{Image}
use Rattle.mont_image.specs.ImageText.{ImageParts}
use Rattle.old_image.specs.Migration.{AreMigrated, IsOldFirstRefusal, IsOldWellFormed, KeepsStructures}

-- ---- the words
-- Each live object of the old words stands in its slot, with its body as it is now.
pub record IsMigrated (s : Shape) (words now : List ℕ) : Type 0 where
  pub clock : clock_of now ≡ clock_of words
  pub slots : AreMigrated s words now
  pub kept : KeepsStructures s words now

abbrev pub AreWordsAs : Bool → Shape → List ℕ → List ℕ → Type 0
AreWordsAs true s words now = IsMigrated s words now
AreWordsAs false s words now = now ≡ words

-- those of an image as they are now
abbrev pub AreWordsNow : ImageParts → List ℕ → Type 0
AreWordsNow p now = AreWordsAs p.old p.layout p.words now

pub record IsImageNow (p : ImageParts) (i : Image) : Type 0 where
  pub layout : i.layout ≡ p.layout
  pub new : i.old ≡ false
  pub words : AreWordsNow p i.words

-- ---- what recovery says of it, by its own slots and bodies
abbrev pub IsAcceptedAs : Bool → Shape → List ℕ → Type 0
IsAcceptedAs true s words = IsOldWellFormed s words
IsAcceptedAs false s words = IsWellFormed s words

abbrev pub IsAccepted : ImageParts → Type 0
IsAccepted p = IsAcceptedAs p.old p.layout p.words

abbrev pub IsRefusedAs : Bool → Shape → List ℕ → RecoverRefusal → Type 0
IsRefusedAs true s words why = IsOldFirstRefusal s words why
IsRefusedAs false s words why = IsFirstRefusal s words why

abbrev pub IsRefused : ImageParts → RecoverRefusal → Type 0
IsRefused p why = IsRefusedAs p.old p.layout p.words why
