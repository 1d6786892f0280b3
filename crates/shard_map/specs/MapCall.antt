-- How the index of a map unit follows an operation that was carried out.
use Rattle.std.specs.Prelude.{◌≡◌, ◌⊎◌, ℕ, Option, Some, List, [], ◌∷◌}
use Rattle.mont_base.specs.declared.record.Change.{Change}
use Rattle.mont_base.specs.declared.record.Change.TheVariants.{Insert}
use Rattle.std.specs.FinMap as finite
use Rattle.mont_base.specs.declared.operation.Op.{Op}
use Rattle.mont_base.specs.declared.operation.Op.TheVariants as ops
use Rattle.index_kit.specs.Index.{Places, CanPut}

-- the places once the last record of an operation stands in a slot; with no record they stay
abbrev pub places_behind : Places → Op → Option ℕ → Places
places_behind places (ops.Put key value) (Some slot) = finite.insert places key slot
places_behind places (ops.Del key) (Some slot) = finite.remove places key
places_behind places (ops.OPut unit key value) (Some slot) = finite.insert places key slot
places_behind places (ops.ODel unit key) (Some slot) = finite.remove places key
places_behind places _ _ = places

-- an operation is this one of a map unit, or this one of an ordered unit
abbrev pub IsEither : Op → Op → (ℕ → Op) → Type 0
IsEither op of_map of_ordered = (op ≡ of_map) ⊎ ((unit : ℕ) × (op ≡ of_ordered unit))

-- An index finds keys alone: the operation looks up, sets or removes one.
abbrev pub AsksKey : Op → Type 0
AsksKey (ops.OFloor unit key) = ⊥
AsksKey (ops.ORank unit key) = ⊥
AsksKey (ops.ORange unit from to most) = ⊥
AsksKey _ = Unit {0}

-- an operation that sets a key finds room for it
abbrev pub HasRoomFor : Places → ℕ → Op → Type 0
HasRoomFor places spare (ops.Put key value) = CanPut places spare key
HasRoomFor places spare (ops.OPut unit key value) = CanPut places spare key
HasRoomFor places spare _ = Unit {0}

-- a key that wasn't there comes in
abbrev pub AddsKey : List Change → Type 0
AddsKey (Insert body ∷ []) = Unit {0}
AddsKey _ = ⊥
