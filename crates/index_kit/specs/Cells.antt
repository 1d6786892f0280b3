-- Cells in a row: each is free, or holds a mark and a number.
use Rattle.std.specs.Prelude.{ℕ, ◌+◌, ◌<◌, ◌⊎◌, ◌==◌, List, [], ◌∷◌, slice_index_or, Option, Some, None, if◌then◌else◌}
use Rattle.std.specs.Option.{option_map}
use Rattle.index_kit.specs.declared.cells.TheConstants.{HELD}

-- a mark, and a number
abbrev pub Cell : Type 0
Cell = Option (ℕ × ℕ)

abbrev pub Cells : Type 0
Cells = List Cell

-- after the last cell there is nothing
abbrev pub cell_at : {A : Type 0} → List (Option A) → ℕ → Option A
cell_at cells at = slice_index_or cells at None

abbrev pub mark_in : Cell → ℕ
mark_in None = 0
mark_in (Some held) = held.0

abbrev pub number_in : Cell → Option ℕ
number_in cell = option_map (λ (held : ℕ × ℕ). held.1) cell

-- a cell, or the next, has no mark of one that is held
abbrev pub HasGap : Cells → ℕ → Type 0
HasGap cells at = (mark_in (cell_at cells at) < HELD) ⊎ (mark_in (cell_at cells (at + 1)) < HELD)

-- They are kept as a list of marks and one of numbers. A mark of 0 says that the cell is free.
abbrev pub cell_of : ℕ → ℕ → Cell
cell_of mark number = if mark == 0 then None else Some (mark, number)

abbrev pub cells_of : List ℕ → List ℕ → Cells
cells_of [] numbers = []
cells_of (mark ∷ marks) [] = []
cells_of (mark ∷ marks) (number ∷ numbers) = cell_of mark number ∷ cells_of marks numbers
