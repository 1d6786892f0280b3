-- The histories that the receipts of all callers tell.
use Rattle.std.specs.Prelude.{◌≡◌, ◌≢◌, ℕ, ◌+◌, ◌<◌, ◌≤◌, max, List, length, slice_get, Some, All}
use Rattle.mont_base.specs.declared.operation.Entry.{Entry}
use Rattle.mont_base.specs.declared.operation.Receipt.{Receipt}
use Rattle.core_steps.specs.Places.{EachAt}

-- where a receipt is one of the unit, its entry stands at its place
abbrev pub HoldsEntryOf : ℕ → List Entry → Receipt → Type 0
HoldsEntryOf unit h r = r.unit ≡ unit → slice_get h r.place ≡ Some r.entry

-- a caller has a receipt of the unit for this place
pub record HasReceiptAt (receipts : List (List Receipt)) (unit place : ℕ) : Type 0 where
  pub caller : ℕ
  pub call : ℕ
  pub of_caller : List Receipt
  pub receipt : Receipt
  pub there : slice_get receipts caller ≡ Some of_caller
  pub kept : slice_get of_caller call ≡ Some receipt
  pub of_unit : receipt.unit ≡ unit
  pub at_place : receipt.place ≡ place

-- The receipts of each caller tell the history of a unit: the entry of each stands at its place,
-- and each place has one.
pub record TellsHistory (receipts : List (List Receipt)) (unit : ℕ) (h : List Entry)
    : Type 0 where
  pub stand : All (All (HoldsEntryOf unit h)) receipts
  pub whole : (place : ℕ) → place < length h → HasReceiptAt receipts unit place

-- they tell the history of each unit
abbrev pub TellAll : List (List Receipt) → List (List Entry) → Type 0
TellAll receipts histories = EachAt (TellsHistory receipts) histories

-- ---- a history that is filled
-- An entry was put at its place: what stood at other places still does.
pub record IsPut (r : Receipt) (old new : List Entry) : Type 0 where
  pub long : length new ≡ max (length old) (r.place + 1)
  pub here : slice_get new r.place ≡ Some r.entry
  pub others :
      (place : ℕ) → place < length old → place ≢ r.place
      → slice_get new place ≡ slice_get old place

-- What becomes of a part of a history when the entries of some of its receipts are put at their
-- places: it isn't longer than the history, these entries stand there, and so do those of which the
-- receipts were put before.
pub record IsFilled (unit : ℕ) (receipts : List Receipt) (old new h : List Entry) : Type 0 where
  pub long : length new ≤ length h
  pub stand : All (HoldsEntryOf unit new) receipts
  pub still : (r : Receipt) → HoldsEntryOf unit h r → HoldsEntryOf unit old r
      → HoldsEntryOf unit new r

-- whatever the history is
abbrev pub Fills : ℕ → List Receipt → List Entry → List Entry → Type 0
Fills unit receipts old new =
    (h : List Entry) → length old ≤ length h → All (HoldsEntryOf unit h) receipts
    → IsFilled unit receipts old new h
