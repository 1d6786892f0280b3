-- The first reason why recovery refuses an image.
use Rattle.std.specs.Prelude.{◌≡◌, ◌≢◌, ℕ, ◌<◌, List}
use Rattle.mont_base.specs.declared.record.ObjectFault.{ObjectFault}
use Rattle.mont_base.specs.Image.{IsWellFormed, records_of}
use Rattle.mont_base.specs.Layout.{Shape, units_of}
use Rattle.mont_base.specs.Versions.{live_objects}
use Rattle.plain.specs.Built.{IsFirstFault, MakesStructure}
use Rattle.scan.specs.Scanned.{IsLowestFault, IsReadable}
use Rattle.image_units.specs.declared.recovery_refusal.RecoverRefusal.{RecoverRefusal}
use Rattle.image_units.specs.declared.recovery_refusal.RecoverRefusal.TheVariants.{Slot, Twice, Object, Memory}
use Rattle.image_units.specs.Found.{all_records}
use Rattle.image_units.specs.FoundVersions.{HasNoRepeat, IsFirstRepeat}

-- every slot within the cut is read, but a version of a unit stands twice
pub record IsTwice (s : Shape) (image : List ℕ) (slot other : ℕ) : Type 0 where
  pub readable : IsReadable s image
  pub first : IsFirstRepeat (all_records s image) slot other

-- neither of these, but the objects of a unit make no structure: the lowest such unit
pub record IsBadObject (s : Shape) (image : List ℕ) (unit slot : ℕ) (fault : ObjectFault)
    : Type 0 where
  pub readable : IsReadable s image
  pub apart : HasNoRepeat (all_records s image)
  pub inside : unit < units_of s
  pub lower : (k : ℕ) → k < unit → MakesStructure s k (live_objects (records_of s image k))
  pub first : IsFirstFault s unit (live_objects (records_of s image unit)) slot fault

-- Faults of slots come before versions that stand twice, wherever they are, and these before faults
-- of objects. Memory may run out at any time.
abbrev pub IsFirstRefusal : Shape → List ℕ → RecoverRefusal → Type 0
IsFirstRefusal s image (Slot slot fault) = IsLowestFault s image slot fault
IsFirstRefusal s image (Twice slot other) = IsTwice s image slot other
IsFirstRefusal s image (Object unit slot fault) = IsBadObject s image unit slot fault
IsFirstRefusal s image Memory = Unit {0}

-- an image that is refused, but for want of memory, isn't one that recovery accepts
abbrev pub RefusedImagesAreMalformed : Type 0
RefusedImagesAreMalformed = (s : Shape) (image : List ℕ) (refusal : RecoverRefusal)
    → refusal ≢ Memory → IsFirstRefusal s image refusal → IsWellFormed s image → ⊥

-- and it has one such refusal at most, so no number of workers finds another
abbrev pub RefusalsAreOne : Type 0
RefusalsAreOne = (s : Shape) (image : List ℕ) (a b : RecoverRefusal) → a ≢ Memory → b ≢ Memory
    → IsFirstRefusal s image a → IsFirstRefusal s image b → a ≡ b
