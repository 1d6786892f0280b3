-- How a region takes over what recovery found.
use Rattle.std.specs.Prelude.{ℕ, ◌-◌, Bool, true, false, ◌&&◌, not, List, [], ◌∷◌, slice_get, slice_set, slice_index, unwrap_or, is_none, Option, if◌then◌else◌}
use Rattle.mont_base.specs.declared.record.Held.{Held}
use Rattle.slots.specs.Books.{row_in}

-- the places of these slots are marked
abbrev pub marked : ℕ → List Bool → List ℕ → List Bool
marked first marks [] = marks
marked first marks (slot ∷ slots) = marked first (slice_set marks (slot - first) true) slots

abbrev pub mark_at : ℕ → List Bool → ℕ → Bool
mark_at first marks slot = unwrap_or (slice_get marks (slot - first)) false

-- a slot has no record in its row, and no mark
abbrev pub is_unused : ℕ → List (Option Held) → List Bool → ℕ → Bool
is_unused first rows marks slot =
    is_none (row_in (slice_get rows (slot - first))) && not (mark_at first marks slot)

-- the first words of the bodies of records whose slots have no mark
abbrev pub serials_left : ℕ → List Bool → List Held → List ℕ
serials_left first marks [] = []
serials_left first marks (r ∷ rs) =
    if mark_at first marks r.slot then serials_left first marks rs
    else slice_index r.body 0 ∷ serials_left first marks rs
