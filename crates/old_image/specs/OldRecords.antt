-- Why the records of an image aren't read.
use Rattle.std.specs.Prelude.{ℕ, List}
use Rattle.mont_base.specs.Layout.{Shape}
use Rattle.scan.specs.Scanned.{IsLowestFault}
use Rattle.image_units.specs.declared.recovery_refusal.RecoverRefusal.{RecoverRefusal}
use Rattle.image_units.specs.declared.recovery_refusal.RecoverRefusal.TheVariants.{Slot, Twice, Object, Memory}

-- the lowest slot with a fault, or want of memory
abbrev pub IsSlotRefusal : Shape → List ℕ → RecoverRefusal → Type 0
IsSlotRefusal s wide (Slot slot fault) = IsLowestFault s wide slot fault
IsSlotRefusal s wide (Twice slot other) = ⊥
IsSlotRefusal s wide (Object unit slot fault) = ⊥
IsSlotRefusal s wide Memory = Unit {0}
