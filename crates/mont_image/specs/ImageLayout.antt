-- The layout that an image's text tells.
use Rattle.std.specs.Prelude.{◌≡◌, ℕ, ◌+◌, ◌/◌, ◌<◌, ◌≤◌, List, length, take, None}
use Rattle.mont_base.specs.Layout.{Shape, IsLayout}
use Rattle.mont_image.specs.declared.image_text.Header.{Header}
use Rattle.mont_image.specs.declared.image_text.TheConstants.{HEADER, WORD}
use Rattle.mont_image.specs.declared.image_refusal.ImageRefusal.{ImageRefusal}
use Rattle.mont_image.specs.declared.image_refusal.ImageRefusal.TheVariants as faults
use Rattle.mont_image.specs.ImageText.{units_told, HasKindsOf, words_in, kinds_of_codes}

-- a layout that the header and the codes tell
pub record IsLayoutOf (h : Header) (s : Shape) : Type 0 where
  pub layout : IsLayout s
  pub slots : s.slots ≡ h.slots
  pub units : units_told h.version s.kinds ≡ h.units
  pub kinds : HasKindsOf h.version s.kinds

-- the codes of so many units aren't all there, and so many words are whole
pub record EndsInCodes (units whole : ℕ) (rest : List ℕ) : Type 0 where
  pub words : whole ≡ HEADER + length rest / WORD
  pub few : length rest / WORD < units

-- one of them is that of no kind
pub record HasNoKinds (units : ℕ) (rest : List ℕ) : Type 0 where
  pub many : units ≤ length rest / WORD
  pub none : kinds_of_codes (take units (words_in rest)) ≡ None

abbrev pub RefusesCodes : ℕ → ImageRefusal → List ℕ → Type 0
RefusesCodes units (faults.Short words) rest = EndsInCodes units words rest
RefusesCodes units faults.Layout rest = HasNoKinds units rest
RefusesCodes units _ rest = ⊥
