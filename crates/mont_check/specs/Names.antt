-- How often the places of a unit are named, as far as they were counted. A count stays at the last
-- number of its type.
use Rattle.std.specs.Prelude.{◌≡◌, ℕ, ◌+◌, ◌-◌, ◌^◌, ◌<◌, min, List, length, count_by, slice_index}
use Rattle.job_text.specs.declared.outcome.Outcome.{Outcome}
use Rattle.job_text.specs.Outcomes.{names_entry, times_named}

abbrev pub most : ℕ
most = 2 ^ 64 - 1

-- each place was counted as often as these outcomes name it
pub record CountsNames (unit : ℕ) (os : List Outcome) (old new : List ℕ) : Type 0 where
  pub as_many : length new ≡ length old
  pub each :
      (place : ℕ) → place < length old
      → slice_index new place
      ≡ min (slice_index old place + count_by (names_entry unit place) os) most

-- of each of so many places it is told how often these outcomes name it
pub record TellsNames (outcomes : List (List Outcome)) (unit places : ℕ) (times : List ℕ)
    : Type 0 where
  pub as_many : length times ≡ places
  pub each :
      (place : ℕ) → place < places
      → slice_index times place ≡ min (times_named outcomes unit place) most
