-- What is planned of a map operation.
use Rattle.std.specs.Prelude.{◌≡◌, ℕ, List, Option, Some, None}
use Rattle.std.specs.FinMap as finite
use Rattle.mont_base.specs.declared.operation.Op.{Op}
use Rattle.mont_base.specs.declared.operation.Op.TheVariants as ops
use Rattle.mont_base.specs.declared.record.Change.{Change}
use Rattle.mont_base.specs.declared.record.Change.TheVariants.{Insert, Replace, Remove}
use Rattle.mont_base.specs.State.{Key, Value, Pairs}
use Rattle.mont_laws.specs.Structures.{HasPairs}
use Rattle.slots.specs.Books.{RegionShown}
use Rattle.shard_map.specs.declared.map_plan.Found.{Found}

-- the value of a key in the map that the records show
abbrev pub HasValue : RegionShown → Key → Option Value → Type 0
HasValue r key value = (pairs : Pairs)
    → HasPairs r.books.layout r.books.unit r.seat.known.part.records pairs
    → finite.get pairs key ≡ value

abbrev pub value_found : Option Found → Option Value
value_found None = None
value_found (Some found) = Some found.value

-- the key that an operation sets, looks up or removes
abbrev pub key_asked : Op → Option Key
key_asked (ops.Put key value) = Some key
key_asked (ops.Get key) = Some key
key_asked (ops.Del key) = Some key
key_asked (ops.OPut unit key value) = Some key
key_asked (ops.OGet unit key) = Some key
key_asked (ops.ODel unit key) = Some key
key_asked _ = None

-- a new key is inserted, and another one's pair replaced
abbrev pub setting : Option Found → List ℕ → Change
setting None body = Insert body
setting (Some found) body = Replace found.slot found.identity body

-- a key that isn't there isn't removed
abbrev pub removal : Option Found → Option Change
removal None = None
removal (Some found) = Some (Remove found.slot found.identity)
