-- The columns of a picture: the epochs in which something stands, folded where they are many.
use Rattle.std.specs.Prelude.{◌≡◌, ℕ, ◌-◌, List, ◌∷◌, ◌++◌, Bool, true, false, ◌&&◌, not, nat_le, length, map, take, drop, slice_index, filter, Contains, ◌↔◌, if◌then◌else◌}
use Rattle.std.specs.List.{flat_map}
use Rattle.std.specs.List.Sorted.{IsStrictlyIncreasing}
use Rattle.report_drawing.specs.declared.columns.Column.{Column}
use Rattle.report_drawing.specs.Lanes.{Shown, is_lost}

-- the epochs that have a column: the clock at the start, the last epoch that is kept, the clock of
-- the image, and those of all cells
abbrev pub epochs_in : ℕ → ℕ → List (List Shown) → List ℕ
epochs_in base_clock image_clock lanes =
    base_clock ∷ (image_clock - 2) ∷ image_clock
    ∷ flat_map (λ lane. map (λ (s : Shown). s.epoch) lane) lanes

-- a column for one epoch, and one for the epochs from one to another
abbrev pub column : Bool → ℕ → ℕ → Column
column lost first last = record { first = first; last = last; lost = lost }

abbrev pub single : Bool → ℕ → Column
single lost epoch = column lost epoch epoch

-- of more than 25 epochs the first 12 and the last 12 have columns of their own, and one column
-- stands for all between them
abbrev pub columns_in : Bool → List ℕ → List Column
columns_in lost epochs =
    if nat_le (length epochs) 25 then
    map (single lost) epochs
    else
    map (single lost) (take 12 epochs)
    ++ column lost (slice_index epochs 12) (slice_index epochs (length epochs - 13))
    ∷ map (single lost) (drop (length epochs - 12) epochs)

-- the epochs stand by rising number, and between those that are kept and those that are lost is the
-- wall: no column stands for both
abbrev pub columns_at : ℕ → List ℕ → List Column
columns_at image_clock epochs =
    columns_in false (filter (λ e. not (is_lost image_clock e)) epochs)
    ++ columns_in true (filter (λ e. is_lost image_clock e) epochs)

abbrev pub holds : Column → ℕ → Bool
holds c epoch = nat_le c.first epoch && nat_le epoch c.last

-- columns of these epochs, in any order and however often they stand there
pub record AreColumns (image_clock : ℕ) (stand : List ℕ) (found : List Column) : Type 0 where
  pub epochs : List ℕ
  pub rising : IsStrictlyIncreasing epochs
  pub all : (q : ℕ) → Contains epochs q ↔ Contains stand q
  pub columns : found ≡ columns_at image_clock epochs
  -- each of them stands in one column
  pub once : (q : ℕ) → Contains stand q → length (filter (λ c. holds c q) found) ≡ 1
