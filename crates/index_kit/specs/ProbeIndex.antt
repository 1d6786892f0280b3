-- Entries, and a table that numbers them by their keys.
use Rattle.std.specs.Prelude.{◌≡◌, ℕ, ◌-◌, ◌≤◌, ◌/◌, ◌^◌, min, length}
use Rattle.std.specs.FinMap as finite
use Rattle.index_kit.specs.Index.{Entries}
use Rattle.index_kit.specs.Cells.{Cells}
use Rattle.index_kit.specs.Table.{IsMarked, IsTable, IsNumbering, seats_of, numbers_in}

-- two cells of three stay free, and a number has 32 bits
abbrev pub limit_of : ℕ → ℕ
limit_of cells = min (cells / 3) (2 ^ 32 - 1)

-- the table numbers each entry and nothing else, and isn't too full
pub record IsIndexed (entries : Entries) (cells : Cells) : Type 0 where
  pub marked : IsMarked entries cells
  pub table : IsTable (seats_of entries cells)
  pub numbering : IsNumbering entries (numbers_in (seats_of entries cells))
  pub counted : finite.len (numbers_in (seats_of entries cells)) ≡ length entries
  pub loaded : length entries ≤ limit_of (length cells)
