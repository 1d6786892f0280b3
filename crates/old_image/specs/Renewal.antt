-- What becomes of the objects of a unit.
use Rattle.std.specs.Prelude.{◌≡◌, ℕ, ◌<◌, ◌^◌, List, [], ◌∷◌, ◌++◌, map, All, Option, Some, None}
use Rattle.mont_base.specs.declared.kinds.UnitKind.{UnitKind}
use Rattle.mont_base.specs.declared.kinds.UnitKind.TheVariants as kinds
use Rattle.mont_base.specs.declared.record.Object.{Object}
use Rattle.mont_base.specs.declared.record.ObjectFault.{ObjectFault}
use Rattle.mont_base.specs.Layout.{Shape, kind_of}
use Rattle.mont_base.specs.Structure.{object_fault, structure_of}
use Rattle.plain.specs.Built.{IsFirstFault}
use Rattle.image_units.specs.declared.recovery_refusal.RecoverRefusal.{RecoverRefusal}
use Rattle.image_units.specs.declared.recovery_refusal.RecoverRefusal.TheVariants as refusals
use Rattle.old_image.specs.OldStructure.{IsFirstOldFault, number_pair_at, old_object_fault, old_structure_of, renewed_object}

-- ---- a unit
-- The objects make a structure by the bodies of the first version, and with their bodies as they
-- are now they make the same.
pub record RenewsUnit (s : Shape) (unit : ℕ) (os : List Object) : Type 0 where
  pub kind : UnitKind
  pub of_unit : kind_of s unit ≡ Some kind
  pub sound_old : old_object_fault s unit kind os ≡ None
  pub sound_now : object_fault s unit kind (map (renewed_object kind) os) ≡ None
  pub same : structure_of kind (map (renewed_object kind) os) ≡ old_structure_of kind os

-- each has its body as it is now
abbrev pub AreRenewed : Shape → ℕ → List Object → List Object → Type 0
AreRenewed s unit os now =
    (kind : UnitKind) → kind_of s unit ≡ Some kind → now ≡ map (renewed_object kind) os

-- the first fault of the objects of this unit, or want of memory
abbrev pub IsRefusalFor : (ℕ → ObjectFault → Type 0) → ℕ → RecoverRefusal → Type 0
IsRefusalFor first unit (refusals.Slot slot fault) = ⊥
IsRefusalFor first unit (refusals.Twice slot other) = ⊥
IsRefusalFor first unit (refusals.Object u slot fault) = (u ≡ unit) × first slot fault
IsRefusalFor first unit refusals.Memory = Unit {0}

abbrev pub IsObjectRefusal : Shape → ℕ → List Object → RecoverRefusal → Type 0
IsObjectRefusal s unit os = IsRefusalFor (IsFirstFault s unit os) unit

abbrev pub IsOldObjectRefusal : Shape → ℕ → List Object → RecoverRefusal → Type 0
IsOldObjectRefusal s unit os = IsRefusalFor (IsFirstOldFault s unit os) unit

-- ---- the front of a map's objects
-- the first object after it, if there is one, has a word that isn't used and isn't 0
abbrev pub EndsAt : Option ℕ → List Object → Type 0
EndsAt None behind = behind ≡ []
EndsAt (Some slot) [] = ⊥
EndsAt (Some slot) (o ∷ os) = (o.slot ≡ slot) × (number_pair_at o ≡ None)

pub record HoldsNumbers (o : Object) : Type 0 where
  pub key : ℕ
  pub value : ℕ
  pub are : number_pair_at o ≡ Some (key, value)
  pub small_key : key < 2 ^ 64
  pub small_value : value < 2 ^ 64

pub record AreFrontPairs (os pairs : List Object) (spare : Option ℕ) : Type 0 where
  pub front : List Object
  pub behind : List Object
  pub all : os ≡ front ++ behind
  pub numbers : All HoldsNumbers front
  pub pairs_are : pairs ≡ map (renewed_object kinds.Map) front
  pub ends : EndsAt spare behind
