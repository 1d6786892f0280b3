-- Entries that were seen: those that stand first in the history of their unit.
use Rattle.std.specs.Prelude.{◌≡◌, ℕ, List, slice_get, Some}
use Rattle.mont_base.specs.declared.operation.Entry.{Entry}
use Rattle.core_steps.specs.Notes.{BeginsWith}

-- These entries stand first among those of the unit.
pub record StandsFirst (wholes : List (List Entry)) (unit : ℕ) (front : List Entry) : Type 0 where
  pub whole : List Entry
  pub there : slice_get wholes unit ≡ Some whole
  pub begins : BeginsWith whole front

-- So do all of these, unit by unit.
abbrev pub AreFronts : List (List Entry) → List (List Entry) → Type 0
AreFronts wholes fronts =
    (unit : ℕ) (front : List Entry) → slice_get fronts unit ≡ Some front
    → StandsFirst wholes unit front

-- What a caller sees after news: the entries that it had seen stand first there, and so do those
-- that the news had seen.
pub record SeesBoth (old news new : List (List Entry)) : Type 0 where
  pub own : AreFronts new old
  pub others : AreFronts new news
