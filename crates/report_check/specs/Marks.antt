-- Marks on the entries that were named, by unit and place.
use Rattle.std.specs.Prelude.{◌≡◌, ◌≢◌, ◌↔◌, ℕ, ◌≤◌, ◌⊎◌, Bool, true, false, IsTrue, List, length, map, slice_get, Option, Some, None}
use Rattle.mont_base.specs.declared.operation.Entry.{Entry}

abbrev pub mark_in : Option (List Bool) → ℕ → Option Bool
mark_in None place = None
mark_in (Some row) place = slice_get row place

abbrev pub mark_at : List (List Bool) → ℕ → ℕ → Option Bool
mark_at marks unit place = mark_in (slice_get marks unit) place

-- there is one for each entry, and it is set where the entry was named, if it was named so often
pub record AreMarks (histories : List (List Entry)) (times : ℕ → ℕ → ℕ)
    (marks : List (List Bool)) : Type 0 where
  pub shape : map length marks ≡ map length histories
  pub each :
      (unit place : ℕ) (b : Bool) → mark_at marks unit place ≡ Some b
      → IsTrue b ↔ (1 ≤ times unit place)

-- the entry has its mark, if it is there
abbrev pub IsMarkedThere : List (List Bool) → ℕ → ℕ → Type 0
IsMarkedThere marks unit place = (b : Bool) → mark_at marks unit place ≡ Some b → b ≡ true

-- one entry is marked, if it is there, and all others are as they were
pub record MarksOne (unit place : ℕ) (old new : List (List Bool)) : Type 0 where
  pub shape : map length new ≡ map length old
  pub each :
      (u p : ℕ) (b : Bool) → mark_at new u p ≡ Some b
      → ((u ≡ unit) × (p ≡ place) × (b ≡ true)) ⊎ (mark_at old u p ≡ Some b)
  pub kept : mark_at new unit place ≢ Some false
