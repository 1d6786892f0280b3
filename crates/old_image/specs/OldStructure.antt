-- What the live objects of an image of the first version make, or the first fault that they have.
-- Keys and values of maps are numbers there. Bodies of queues and graphs say what they say now.
use Rattle.std.specs.Prelude.{◌≡◌, ℕ, ◌%◌, Bool, ◌==◌, not, List, [], length, if◌then◌else◌, decimal, slice_index, slice_get, Option, Some, None, option_map}
use Rattle.std.specs.List.{list_any, filter_map}
use Rattle.std.specs.FinMap as finite
use Rattle.mont_base.specs.declared.kinds.UnitKind.{UnitKind}
use Rattle.mont_base.specs.declared.kinds.UnitKind.TheVariants as kinds
use Rattle.mont_base.specs.declared.record.Object.{Object}
use Rattle.mont_base.specs.declared.record.ObjectFault.{ObjectFault}
use Rattle.mont_base.specs.declared.record.ObjectFault.TheVariants as faults
use Rattle.mont_base.specs.Bodies.{is_clean, pair_body}
use Rattle.mont_base.specs.Layout.{Shape, kind_of, units_of}
use Rattle.mont_base.specs.State.{State, MapOf, Key, Value, Pairs}
use Rattle.mont_base.specs.Structure.{fault_if, first_fault, names, object_fault, structure_of}
use Rattle.mont_image.specs.StoredImage.{maps_in}
use Rattle.old_image.specs.OldSlots.{objects_in, widened}

-- ---- maps
-- key and value of a body, if no other word is used
abbrev pub number_pair_in : List ℕ → Option (ℕ × ℕ)
number_pair_in body =
    if is_clean 2 body then Some (slice_index body 0, slice_index body 1) else None

abbrev pub number_pair_at : Object → Option (ℕ × ℕ)
number_pair_at o = number_pair_in o.body

-- a word that isn't used and isn't 0, a key of another unit, a key that stands in a lower slot
abbrev pub has_number : ℕ → Object → Bool
has_number key o = names (λ k. k == key) (number_pair_at o)

abbrev pub number_pair_fault : Shape → ℕ → List Object → Option (ℕ × ℕ) → Option ObjectFault
number_pair_fault s unit lower None = Some faults.Spare
number_pair_fault s unit lower (Some p) =
    if not (p.0 % maps_in s.kinds == unit) then Some faults.Shard else fault_if
    (list_any (has_number p.0) lower) faults.Key

abbrev pub old_map_fault : Shape → ℕ → List Object → Object → Option ObjectFault
old_map_fault s unit lower o = number_pair_fault s unit lower (number_pair_at o)

-- each number stands for the text of its digits
abbrev pub digits_of : ℕ × ℕ → Key × Value
digits_of p = (decimal p.0, decimal p.1)

abbrev pub digits_at : Object → Option (Key × Value)
digits_at o = option_map digits_of (number_pair_at o)

abbrev pub old_pairs_of : List Object → Pairs
old_pairs_of os = finite.from_entries (filter_map digits_at os)

-- ---- units
abbrev pub old_object_fault : Shape → ℕ → UnitKind → List Object → Option (ℕ × ObjectFault)
old_object_fault s unit kinds.Map os = first_fault (old_map_fault s unit) [] os
old_object_fault s unit kinds.Queue os = object_fault s unit kinds.Queue os
old_object_fault s unit kinds.Graph os = object_fault s unit kinds.Graph os
old_object_fault s unit kinds.Ordered os = object_fault s unit kinds.Ordered os

abbrev pub old_structure_of : UnitKind → List Object → State
old_structure_of kinds.Map os = MapOf (old_pairs_of os)
old_structure_of kinds.Queue os = structure_of kinds.Queue os
old_structure_of kinds.Graph os = structure_of kinds.Graph os
old_structure_of kinds.Ordered os = structure_of kinds.Ordered os

-- The structure of a unit's objects, which is defined exactly where they have no fault.
pub record IsOldStructure (s : Shape) (unit : ℕ) (os : List Object) (state : State) : Type 0 where
  pub kind : UnitKind
  pub of_unit : kind_of s unit ≡ Some kind
  pub sound : old_object_fault s unit kind os ≡ None
  pub made : state ≡ old_structure_of kind os

abbrev pub MakesOldStructure : Shape → ℕ → List Object → Type 0
MakesOldStructure s unit os = (state : State) × IsOldStructure s unit os state

-- the first fault of a unit's objects
pub record IsFirstOldFault (s : Shape) (unit : ℕ) (os : List Object)
    (slot : ℕ) (fault : ObjectFault) : Type 0 where
  pub kind : UnitKind
  pub of_unit : kind_of s unit ≡ Some kind
  pub first : old_object_fault s unit kind os ≡ Some (slot, fault)

-- ---- the whole image: the structure of each unit's live objects
abbrev pub IsOldRecovered : Shape → List ℕ → List State → Type 0
IsOldRecovered s image states =
    (length states ≡ units_of s) × ((unit : ℕ) (state : State) → slice_get states unit ≡ Some state
    → IsOldStructure s unit (objects_in s (widened s image) unit) state)

-- ---- what an object becomes
-- a body as it is now: digits in place of the numbers of a map
abbrev pub renewed_body : UnitKind → List ℕ → List ℕ
renewed_body kinds.Map body =
    pair_body (decimal (slice_index body 0)) (decimal (slice_index body 1))
renewed_body kinds.Queue body = body
renewed_body kinds.Graph body = body
renewed_body kinds.Ordered body = body

abbrev pub renewed_object : UnitKind → Object → Object
renewed_object kind o = record o { body = renewed_body kind o.body }
