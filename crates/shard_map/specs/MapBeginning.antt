-- With what the index of a map unit is filled.
use Rattle.std.specs.Prelude.{◌≡◌, ℕ, true, List, Some}
use Rattle.std.specs.List.{Contains}
use Rattle.std.specs.FinMap as finite
use Rattle.mont_base.specs.declared.record.Object.{Object}
use Rattle.mont_base.specs.State.{Key, Value}
use Rattle.mont_base.specs.Structure.{pair_at}
use Rattle.index_kit.specs.Index.{Places}

-- an object with this key is in this slot
pub record IsObjectAt (objects : List Object) (key : Key) (slot : ℕ) : Type 0 where
  pub object : Object
  pub there : Contains objects object
  pub value : Value
  pub holds : pair_at object ≡ Some (key, value)
  pub in_slot : object.slot ≡ slot

-- The places are those of the keys of objects, each a slot of an object that has it.
pub record HasKeysOf (objects : List Object) (places : Places) : Type 0 where
  pub each : (o : Object) (p : Key × Value) → Contains objects o → pair_at o ≡ Some p
      → finite.contains_key places p.0 ≡ true
  pub only : (key : Key) (slot : ℕ) → finite.get places key ≡ Some slot
      → IsObjectAt objects key slot
