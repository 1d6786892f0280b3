-- How a region keeps its lists: their room, and what becomes of them when written records become
-- the unit's.
use Rattle.std.specs.Prelude.{◌≡◌, ℕ, ◌*◌, ◌-◌, ◌<◌, ◌≤◌, List, [], ◌∷◌, ◌++◌, slice_set, Option, Some, None, if◌then◌else◌}
use Rattle.std.specs.List.{flat_map}
use Rattle.mont_base.specs.declared.record.Held.{Held}
use Rattle.mont_base.specs.Layout.{Shape, unit_of_slot}
use Rattle.mont_base.specs.Versions.{is_delete}
use Rattle.mont_laws.specs.declared.retiring.Retired.{Retired}
use Rattle.slots.specs.declared.books.Written.{Written}
use Rattle.slots.specs.Books.{BooksShown, IsUnitOf}

-- all have room for as many slots as the unit has
pub record HasRooms (s : Shape) (unit rows free retired written : ℕ) : Type 0 where
  pub own : IsUnitOf s unit
  pub each : rows ≡ s.slots
  pub of_free : s.slots ≤ free
  pub of_retired : s.slots ≤ retired
  pub of_written : s.slots ≤ written

-- the first slot of a unit
abbrev pub first_slot : Shape → ℕ → ℕ
first_slot s unit = unit * s.slots

-- the first of a list, if it has one
abbrev pub at_front : {A : Type 0} → List A → Option A
at_front [] = None
at_front (x ∷ xs) = Some x

-- each written record in the row of its slot
abbrev pub placed : ℕ → List (Option Held) → List Written → List (Option Held)
placed first rows [] = rows
placed first rows (w ∷ ws) = placed first (slice_set rows (w.held.slot - first) (Some w.held)) ws

-- what a written record retires: the slot of the version before it, and an anti-payload's own
abbrev pub retired_at : Option ℕ → Held → List Retired
retired_at None w = []
retired_at (Some slot) w =
    record { slot = slot; epoch = w.label.epoch }
    ∷ (if is_delete w.label.kind then record { slot = w.slot; epoch = w.label.epoch } ∷ [] else [])

-- in their order
abbrev pub retired_with : Written → List Retired
retired_with w = retired_at w.before w.held

-- what was written is recorded, and what it supersedes is retired
abbrev pub settled : BooksShown → BooksShown
settled b = record b {
  rows = placed (first_slot b.layout b.unit) b.rows b.written;
  retired = b.retired ++ flat_map retired_with b.written;
  written = [];
}

-- a slot has a place among so many from the first on, and so has a record's
pub record IsPlaced (first places slot : ℕ) : Type 0 where
  pub low : first ≤ slot
  pub high : slot - first < places

abbrev pub HoldsIn : ℕ → ℕ → Held → Type 0
HoldsIn first places r = IsPlaced first places r.slot

-- a written record has a row
pub record IsInRows (first rows : ℕ) (w : Written) : Type 0 where
  pub low : first ≤ w.held.slot
  pub high : w.held.slot - first < rows

-- the slots of written records are the unit's
abbrev pub IsOwnSlot : Shape → ℕ → Written → Type 0
IsOwnSlot s unit w = unit_of_slot s w.held.slot ≡ unit
