-- What a caller has seen once it has heard the news of another.
use Rattle.std.specs.Prelude.{◌≡◌, ℕ, max, Bool, true, ◌||◌, List, length, slice_get, Some}
use Rattle.std.specs.List.{list_any}
use Rattle.core_steps.specs.declared.parts.CallerPart.{CallerPart}
use Rattle.core_steps.specs.declared.parts.Mark.{Mark}
use Rattle.core_steps.specs.declared.parts.Note.{Note}
use Rattle.core_steps.specs.Notes.{same_mark}

abbrev pub has_mark : List Mark → Mark → Bool
has_mark marks m = list_any (same_mark m) marks

-- Each number is the greater of the caller's own and the news's, and no mark of either is lost.
pub record TakesGreater (old : CallerPart) (news : Note) (new : CallerPart) : Type 0 where
  pub units : length new.fronts ≡ length old.fronts
  pub fronts : (u n m : ℕ)
      → slice_get old.fronts u ≡ Some n → slice_get news.fronts u ≡ Some m
      → slice_get new.fronts u ≡ Some (max n m)
  pub newest : new.newest ≡ max old.newest news.newest
  pub durable : new.durable ≡ max old.durable news.durable
  pub marks : (m : Mark) → (has_mark old.marks m || has_mark news.marks m) ≡ true
      → has_mark new.marks m ≡ true
