-- A table of cells in a ring: a search for a key goes from its home cell by cell.
use Rattle.std.specs.Prelude.{◌≡◌, ◌≢◌, ℕ, ◌<◌, ◌≤◌, List, [], length, map, slice_index_or, Option, Some, None}
use Rattle.std.specs.List.{filter_map}
use Rattle.std.specs.Option.{option_map}
use Rattle.std.specs.FinMap as finite
use Rattle.mont_base.specs.State.{Key, key_cmp}
use Rattle.index_kit.specs.Index.{Entries}
use Rattle.index_kit.specs.Ring.{steps}
use Rattle.index_kit.specs.Home.{home_of, mark_of}
use Rattle.index_kit.specs.Cells.{Cell, Cells, cell_at}

-- what a cell holds: a key, and the number of its entry
abbrev pub Seat : Type 0
Seat = Option (Key × ℕ)

abbrev pub Seats : Type 0
Seats = List Seat

abbrev pub key_at : Entries → ℕ → Key
key_at entries number = (slice_index_or entries number ([], 0)).0

-- a cell holds the key of the entry that it numbers
abbrev pub seat_of : Entries → Cell → Seat
seat_of entries cell = option_map (λ (held : ℕ × ℕ). (key_at entries held.1, held.1)) cell

abbrev pub seats_of : Entries → Cells → Seats
seats_of entries cells = map (seat_of entries) cells

-- each cell numbers an entry, and has the mark of its key
pub record IsMarked (entries : Entries) (cells : Cells) : Type 0 where
  pub within : (at : ℕ) (held : ℕ × ℕ) → cell_at cells at ≡ Some held → held.1 < length entries
  pub mark : (at : ℕ) (held : ℕ × ℕ) → cell_at cells at ≡ Some held
      → held.0 ≡ mark_of (key_at entries held.1)

-- this cell holds this key with its number
abbrev pub Holds : Seats → ℕ → Key × ℕ → Type 0
Holds seats at held = cell_at seats at ≡ Some held

-- this cell is free
pub record IsFree (seats : Seats) (at : ℕ) : Type 0 where
  pub within : at < length seats
  pub empty : cell_at seats at ≡ None

abbrev pub HasFree : Seats → Type 0
HasFree seats = (at : ℕ) × IsFree seats at

-- what the cells hold, and the finite map from keys to numbers that it is
abbrev pub held_in : Seats → List (Key × ℕ)
held_in seats = filter_map (λ seat. seat) seats

abbrev pub Numbers : Type 0
Numbers = finite.FinMap key_cmp ℕ

abbrev pub numbers_in : Seats → Numbers
numbers_in seats = finite.from_entries (held_in seats)

-- no two entries have one key
abbrev pub IsKeyed : Entries → Type 0
IsKeyed entries = (i j : ℕ) → i < length entries → j < length entries
    → key_at entries i ≡ key_at entries j → i ≡ j

-- a map from the keys of entries to their numbers
pub record IsNumbering (entries : Entries) (numbers : Numbers) : Type 0 where
  pub each : (number : ℕ) → number < length entries
      → finite.get numbers (key_at entries number) ≡ Some number
  pub only : (key : Key) (number : ℕ) → finite.get numbers key ≡ Some number
      → (number < length entries) × (key_at entries number ≡ key)

-- how far a cell is from a key's home, in a table of so many
abbrev pub distance : ℕ → Key → ℕ → ℕ
distance size key at = steps size (home_of size key) at

-- From a key's home, its cell comes before every free one, but for one that may be a hole.
abbrev pub IsReachedBut : ℕ → Seats → ℕ → Type 0
IsReachedBut size seats hole = (at free : ℕ) (held : Key × ℕ) → Holds seats at held
    → IsFree seats free → free ≢ hole → distance size held.0 at < distance size held.0 free

abbrev pub IsReached : ℕ → Seats → Type 0
IsReached size seats = (at free : ℕ) (held : Key × ℕ) → Holds seats at held
    → IsFree seats free → distance size held.0 at < distance size held.0 free

-- no key stands in two cells
abbrev pub IsApart : Seats → Type 0
IsApart seats = (i j : ℕ) (d e : Key × ℕ) → Holds seats i d → Holds seats j e → d.0 ≡ e.0 → i ≡ j

-- a table in which a walk from a key's home to the first free cell comes to the key, if it is there
pub record IsTable (seats : Seats) : Type 0 where
  pub reached : IsReached (length seats) seats
  pub apart : IsApart seats

-- the same but for a hole, which isn't the only free cell
pub record IsTableBut (seats : Seats) (hole : ℕ) : Type 0 where
  pub free : IsFree seats hole
  pub reached : IsReachedBut (length seats) seats hole
  pub apart : IsApart seats
  pub other : (at : ℕ) × (at ≢ hole) × IsFree seats at

-- the seat of a key: the cell that holds it, or else the first free one from its home on
pub record IsSeat (seats : Seats) (key : Key) (at : ℕ) : Type 0 where
  pub within : at < length seats
  pub own : (held : Key × ℕ) → Holds seats at held → held.0 ≡ key
  pub only : (i : ℕ) (held : Key × ℕ) → Holds seats i held → held.0 ≡ key → i ≡ at
  pub first : (free : ℕ) → IsFree seats free
      → distance (length seats) key at ≤ distance (length seats) key free
