-- Which box a map unit is given, and which map unit has none that is empty.
use Rattle.std.specs.Prelude.{◌≡◌, ◌≢◌, ℕ, ◌+◌, ◌<◌, List, take, drop, count_by, slice_get, Option, Some}
use Rattle.mont_base.specs.declared.kinds.UnitKind.TheVariants as kinds
use Rattle.mont_base.specs.Layout.{Shape, kind_of, same_kind}
use Rattle.store.specs.declared.open_refusal.OpenRefusal.{OpenRefusal}
use Rattle.store.specs.declared.open_refusal.OpenRefusal.TheVariants.{Index, Memory}

-- how many of the units below one are maps
abbrev pub maps_below : Shape → ℕ → ℕ
maps_below s unit = count_by (same_kind kinds.Map) (take unit s.kinds)

-- Of boxes with so many keys each, the first belongs to the first map unit, and so on: how many
-- keys the one of a map unit has. There is none where there are fewer boxes.
abbrev pub keys_for : Shape → List ℕ → ℕ → Option ℕ
keys_for s boxes unit = slice_get boxes (maps_below s unit)

-- if it is a map, the unit has an empty box
abbrev pub HasEmptyBox : Shape → List ℕ → ℕ → Type 0
HasEmptyBox s boxes unit = kind_of s unit ≡ Some kinds.Map → keys_for s boxes unit ≡ Some 0

abbrev pub HaveEmptyBoxes : Shape → List ℕ → Type 0
HaveEmptyBoxes s boxes = (unit : ℕ) → HasEmptyBox s boxes unit

-- The lowest map unit without an empty box: it has none, or one with so many keys.
pub record IsFirstLack (s : Shape) (boxes : List ℕ) (unit : ℕ) (keys : Option ℕ) : Type 0 where
  pub map : kind_of s unit ≡ Some kinds.Map
  pub has : keys_for s boxes unit ≡ keys
  pub lacks : keys ≢ Some 0
  pub lower : (u : ℕ) → u < unit → HasEmptyBox s boxes u

abbrev pub LacksBox : Shape → List ℕ → OpenRefusal → Type 0
LacksBox s boxes (Index unit keys) = IsFirstLack s boxes unit keys
LacksBox s boxes Memory = Unit {0}

-- ---- while they are given out
-- these are left once the units below one were given theirs
pub record AreLeft (s : Shape) (boxes : List ℕ) (unit : ℕ) (left : List ℕ) : Type 0 where
  pub left_are : left ≡ drop (maps_below s unit) boxes
  pub given : (u : ℕ) → u < unit → HasEmptyBox s boxes u

abbrev pub GivesBox : Shape → ℕ → List ℕ → List ℕ → Type 0
GivesBox s unit old new =
    (boxes : List ℕ) → AreLeft s boxes unit old → AreLeft s boxes (unit + 1) new

abbrev pub RefusesBox : Shape → ℕ → List ℕ → OpenRefusal → Type 0
RefusesBox s unit old why = (boxes : List ℕ) → AreLeft s boxes unit old → LacksBox s boxes why
