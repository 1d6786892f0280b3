-- How an image of the first version becomes one of now, and why it doesn't.
use Rattle.std.specs.Prelude.{◌≡◌, ◌≢◌, ◌↔◌, ℕ, ◌+◌, ◌<◌, List, ◌++◌, map, replicate, Option, Some, None}
use Rattle.std.specs.List.{filter_map, range_with_len}
use Rattle.mont_base.specs.declared.constants.TheConstants.{FIELDS}
use Rattle.mont_base.specs.declared.kinds.UnitKind.{UnitKind}
use Rattle.mont_base.specs.declared.record.Held.{Held}
use Rattle.mont_base.specs.declared.record.Object.{Object}
use Rattle.mont_base.specs.declared.record.ObjectFault.{ObjectFault}
use Rattle.mont_base.specs.Image.{IsRecovered, IsWellFormed, records_of, words_at}
use Rattle.mont_base.specs.Layout.{Shape, kind_of, total_of, unit_of_slot, units_of}
use Rattle.mont_base.specs.Record.{slot_words}
use Rattle.mont_base.specs.State.{State}
use Rattle.mont_base.specs.Versions.{live_objects, object_of}
use Rattle.scan.specs.Scanned.{IsLowestFault, IsReadable}
use Rattle.image_units.specs.declared.recovery_refusal.RecoverRefusal.{RecoverRefusal}
use Rattle.image_units.specs.declared.recovery_refusal.RecoverRefusal.TheVariants as refusals
use Rattle.image_units.specs.FirstRefusal.{IsTwice}
use Rattle.image_units.specs.Found.{all_records}
use Rattle.image_units.specs.FoundVersions.{HasNoRepeat}
use Rattle.old_image.specs.OldSlots.{live_at, objects_in, widened}
use Rattle.old_image.specs.OldStructure.{IsFirstOldFault, IsOldRecovered, MakesOldStructure, renewed_object, renewed_body}

-- ---- why it doesn't, of an image that was widened
-- the lowest unit whose objects make no structure
pub record IsLowestBadUnit (s : Shape) (wide : List ℕ) (unit slot : ℕ) (fault : ObjectFault)
    : Type 0 where
  pub inside : unit < units_of s
  pub lower : (k : ℕ) → k < unit → MakesOldStructure s k (objects_in s wide k)
  pub first : IsFirstOldFault s unit (objects_in s wide unit) slot fault

-- and each slot is read, and no version stands twice
pub record IsBadOldObject (s : Shape) (wide : List ℕ) (unit slot : ℕ) (fault : ObjectFault)
    : Type 0 where
  pub readable : IsReadable s wide
  pub apart : HasNoRepeat (all_records s wide)
  pub lowest : IsLowestBadUnit s wide unit slot fault

-- Faults of slots come before versions that stand twice, and these before faults of objects, as
-- with any image. Memory may run out at any time.
abbrev pub IsFirstIn : Shape → List ℕ → RecoverRefusal → Type 0
IsFirstIn s wide (refusals.Slot slot fault) = IsLowestFault s wide slot fault
IsFirstIn s wide (refusals.Twice slot other) = IsTwice s wide slot other
IsFirstIn s wide (refusals.Object unit slot fault) = IsBadOldObject s wide unit slot fault
IsFirstIn s wide refusals.Memory = Unit {0}

-- ---- an image of the first version
-- Each slot within the cut is read without fault, no version of a unit stands twice, and the
-- objects of each unit make a structure.
pub record IsOldWellFormed (s : Shape) (image : List ℕ) : Type 0 where
  pub readable : IsReadable s (widened s image)
  pub apart : HasNoRepeat (all_records s (widened s image))
  pub defined :
      (unit : ℕ) → unit < units_of s
      → MakesOldStructure s unit (objects_in s (widened s image) unit)

abbrev pub IsOldFirstRefusal : Shape → List ℕ → RecoverRefusal → Type 0
IsOldFirstRefusal s image refusal = IsFirstIn s (widened s image) refusal

abbrev pub RefusedOldImagesAreMalformed : Type 0
RefusedOldImagesAreMalformed = (s : Shape) (image : List ℕ) (refusal : RecoverRefusal)
    → refusal ≢ refusals.Memory → IsOldFirstRefusal s image refusal → IsOldWellFormed s image → ⊥

-- ---- migration
-- The words of a slot: those of its live record, with the body as it is now; else zeros.
abbrev pub words_now : Option UnitKind → Option Held → List ℕ
words_now (Some kind) (Some r) = slot_words r.label (renewed_body kind r.body)
words_now None (Some r) = replicate FIELDS 0
words_now kind None = replicate FIELDS 0

abbrev pub migrated_slot : Shape → List ℕ → ℕ → List ℕ
migrated_slot s wide slot = words_now (kind_of s (unit_of_slot s slot)) (live_at s wide slot)

abbrev pub AreMigrated : Shape → List ℕ → List ℕ → Type 0
AreMigrated s image now =
    (slot : ℕ) → slot < total_of s → words_at now slot ≡ migrated_slot s (widened s image) slot

-- The live object of a slot with its body as it is now.
abbrev pub object_if : Option UnitKind → Option Held → Option Object
object_if (Some kind) (Some r) = Some (renewed_object kind (object_of r))
object_if None (Some r) = None
object_if kind None = None

abbrev pub object_at : Shape → List ℕ → ℕ → Option Object
object_at s wide slot = object_if (kind_of s (unit_of_slot s slot)) (live_at s wide slot)

-- ---- one slot after the other
-- The words of a slot were added, of so many that are left, in which these objects stand; after it
-- stand the others.
pub record PushesSlot (s : Shape) (wide : List ℕ) (slot left : ℕ) (before now : List ℕ)
    (behind : List Object) : Type 0 where
  pub words : now ≡ before ++ migrated_slot s wide slot
  pub objects : behind ≡ filter_map (object_at s wide) (range_with_len (slot + 1) left)

-- ---- one unit after the other
-- the lowest unit whose objects have a fault, or want of memory
abbrev pub IsUnitRefusal : Shape → List ℕ → RecoverRefusal → Type 0
IsUnitRefusal s wide (refusals.Slot slot fault) = ⊥
IsUnitRefusal s wide (refusals.Twice slot other) = ⊥
IsUnitRefusal s wide (refusals.Object unit slot fault) = IsLowestBadUnit s wide unit slot fault
IsUnitRefusal s wide refusals.Memory = Unit {0}

-- Recovery accepts the new image. It has the live objects of the old one with their bodies as they
-- are now, and the structures that recovery rebuilds of it are those of the old one.
pub record KeepsStructures (s : Shape) (image now : List ℕ) : Type 0 where
  pub accepted : IsWellFormed s now
  pub objects :
      (unit : ℕ) (kind : UnitKind) → kind_of s unit ≡ Some kind
      → live_objects (records_of s now unit)
      ≡ map (renewed_object kind) (objects_in s (widened s image) unit)
  pub states : (states : List State) → IsRecovered s now states ↔ IsOldRecovered s image states
