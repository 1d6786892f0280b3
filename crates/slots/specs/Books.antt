-- What a region keeps of its unit's slots beside the unit's seat, and that it is what the seat
-- shows.
use Rattle.std.specs.Prelude.{◌≡◌, ℕ, ◌+◌, ◌-◌, ◌*◌, ◌<◌, ◌≤◌, ◌==◌, Bool, List, ◌++◌, [], length, map, All, count_by, Option, None, Some, option_map, slice_get, IsTrue, if◌then◌else◌}
use Rattle.std.specs.List.{find}
use Rattle.mont_base.specs.declared.operation.Entry.{Entry}
use Rattle.mont_base.specs.declared.record.Held.{Held}
use Rattle.mont_base.specs.Image.{slots_of}
use Rattle.mont_base.specs.Layout.{Shape, IsLayout, units_of, unit_of_slot}
use Rattle.mont_base.specs.Versions.{newest_of}
use Rattle.mont_laws.specs.declared.retiring.Retired.{Retired}
use Rattle.mont_laws.specs.Records.{AreApart}
use Rattle.mont_laws.specs.Retiring.{Retires}
use Rattle.mont_laws.specs.SlotReadings.{IsRecordOf}
use Rattle.core_steps.specs.declared.parts.UnitPart.{UnitPart}
use Rattle.core_steps.specs.declared.parts.UnitStage.TheVariants.{Idle}
use Rattle.core_steps.specs.Notes.{last_epoch}
use Rattle.heap.specs.HeapShown.{HeapShown, UnitShown}
use Rattle.heap_rule.specs.Views.{are_clean}
use Rattle.slots.specs.declared.books.Written.{Written}
use Rattle.slots.specs.Serials.{is_queue, IsNextSerial}

pub record BooksShown : Type 0 where
  pub layout : Shape
  pub unit : ℕ
  -- of each slot of the unit, in their order, the record that stands in it
  pub rows : List (Option Held)
  pub free : List ℕ
  pub retired : List Retired
  pub lost : List ℕ
  pub written : List Written
  -- the numbers that the next new object and the next item are given
  pub identity : ℕ
  pub serial : ℕ
  pub places : ℕ
  pub newest : ℕ
  -- the label of the first lost slot is closed, but not yet durably
  pub sweeping : Bool
  pub halted : Option ℕ

pub record RegionShown : Type 0 where
  pub seat : UnitShown
  pub books : BooksShown

-- ---- slots
abbrev pub slots_in : List Held → List ℕ
slots_in records = map (λ (r : Held). r.slot) records

-- how often a slot stands in a list
abbrev pub times : ℕ → List ℕ → ℕ
times slot slots = count_by (λ s. s == slot) slots

-- Each slot of the unit is free, or a record's, or written, or lost, and but one of these once; no
-- other slot is.
pub record AreAllSlots
    (s : Shape) (unit : ℕ) (free : List ℕ) (records written : List Held) (lost : List ℕ)
    : Type 0 where
  pub each : (slot : ℕ)
      → times slot free + times slot (slots_in records) + times slot (slots_in written)
      + times slot lost ≡ (if unit_of_slot s slot == unit then 1 else 0)
  pub many : length free + length records + length written + length lost ≡ s.slots

-- ---- records
-- the record that stands in a slot, if one does
abbrev pub record_in : List Held → ℕ → Option Held
record_in records slot = find (λ (r : Held). r.slot == slot) records

-- of each slot of the unit, in their order
abbrev pub rows_of : Shape → ℕ → List Held → List (Option Held)
rows_of s unit records = map (record_in records) (slots_of s unit)

-- the record of the row that a slot has in the books
abbrev pub row_in : Option (Option Held) → Option Held
row_in None = None
row_in (Some row) = row

abbrev pub row_at : BooksShown → ℕ → Option Held
row_at b slot =
    if unit_of_slot b.layout slot == b.unit
    then row_in (slice_get b.rows (slot - b.unit * b.layout.slots)) else None

-- a record that was written, with the slot of the version before it
abbrev pub slot_before : List Held → Held → Option ℕ
slot_before records w = option_map (λ (r : Held). r.slot) (newest_of w.label.identity records)

abbrev pub as_written : List Held → Held → Written
as_written records w = record { held = w; before = slot_before records w }

abbrev pub HasLowerIdentity : ℕ → Held → Type 0
HasLowerIdentity identity r = r.label.identity < identity

-- a unit of a store that has this layout
pub record IsUnitOf (s : Shape) (unit : ℕ) : Type 0 where
  pub layout : IsLayout s
  pub inside : unit < units_of s

-- ---- The books are those of a unit with these records, retired and lost slots, written records,
-- and history.
pub record AreBooks
    (records : List Held) (retired : List Retired) (lost : List ℕ) (written : List Held)
    (history : List Entry) (frozen : Option ℕ) (b : BooksShown) : Type 0 where
  pub own : IsUnitOf b.layout b.unit
  pub slots : AreAllSlots b.layout b.unit b.free records written lost
  pub apart : AreApart records
  pub valid : All (IsRecordOf b.unit) (records ++ written)
  pub begun : 1 ≤ b.identity
  pub numbered : All (HasLowerIdentity b.identity) (records ++ written)
  pub serials : IsTrue (is_queue b.layout b.unit) → IsNextSerial records written b.serial
  pub retires : Retires records retired
  pub rows_are : b.rows ≡ rows_of b.layout b.unit records
  pub retired_are : b.retired ≡ retired
  pub lost_are : b.lost ≡ lost
  pub written_are : b.written ≡ map (as_written records) written
  pub places_are : b.places ≡ length history
  pub newest_is : b.newest ≡ last_epoch history
  pub halted_is : b.halted ≡ frozen

abbrev pub AreBooksOf : UnitPart → BooksShown → Type 0
AreBooksOf p b = AreBooks p.records p.retired p.lost p.written p.history p.frozen b

-- A region's books are those of the unit that its seat shows. How far the unit is in its epoch
-- isn't in the books.
abbrev pub Agrees : RegionShown → Type 0
Agrees r = (r.books.unit ≡ r.seat.known.unit) × AreBooksOf r.seat.known.part r.books

-- No operation is under way: the unit is idle, and has nothing written.
pub record IsAtRest (p : UnitPart) : Type 0 where
  pub stage : p.stage ≡ Idle
  pub written : p.written ≡ []
  pub writing : p.writing ≡ None

-- the books with what a unit's part shows; the free slots and the next numbers stay
abbrev pub books_showing : BooksShown → UnitPart → BooksShown
books_showing b p = record b {
  rows = rows_of b.layout b.unit p.records;
  retired = p.retired;
  lost = p.lost;
  written = map (as_written p.records) p.written;
  places = length p.history;
  newest = last_epoch p.history;
  halted = p.frozen;
}

-- ---- a region of a heap
pub record IsRegionOf (heap : HeapShown) (r : RegionShown) : Type 0 where
  pub table : r.seat.table ≡ heap.table
  pub layout : r.books.layout ≡ heap.opening.layout

-- so many units that were known to have no lost slot still are
abbrev pub StaysClean : ℕ → RegionShown → RegionShown → Type 0
StaysClean units old new =
    IsTrue (are_clean units old.seat.known.clean) → IsTrue (are_clean units new.seat.known.clean)

-- The region is still one of the heap, isn't halted, and has the same history.
pub record StaysOpen (heap : HeapShown) (old new : RegionShown) : Type 0 where
  pub of_heap : IsRegionOf heap new
  pub running : new.books.halted ≡ None
  pub history : new.seat.known.part.history ≡ old.seat.known.part.history
  pub clean : StaysClean (units_of heap.opening.layout) old new
