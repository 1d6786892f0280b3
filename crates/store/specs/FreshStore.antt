-- A heap that was never used, with all its seats, and the structures of its units.
use Rattle.std.specs.Prelude.{◌≡◌, ℕ, ◌<◌, ◌≤◌, suc, List, [], ◌∷◌, length, Box}
use Rattle.mont_base.specs.Layout.{Shape, units_of}
use Rattle.core_steps.specs.Places.{EachAt}
use Rattle.heap_rule.specs.Views.{first_unit}
use Rattle.heap.specs.FreshOpening.{fresh_opening}
use Rattle.heap.specs.HeapShown.{HeapShown, UnitShown, AdvShown, CallerShown}
use Rattle.heap.specs.Opens.{Opens}
use Rattle.store.specs.declared.unit_structure.Structure.{Structure}
use Rattle.store.specs.UnitAt.{StandsAt}

-- it was opened as a fresh one, and no step was made since
pub record IsFreshHeap
    (heap : HeapShown) (units : List UnitShown) (advancer : AdvShown) (callers : List CallerShown)
    : Type 0 where
  pub layout : Shape
  pub many : ℕ
  pub opens : Opens (fresh_opening layout many) heap units advancer callers

abbrev pub IsNeverUsed : HeapShown → Type 0
IsNeverUsed heap = heap.opening ≡ fresh_opening heap.opening.layout heap.opening.callers

-- the seat of a unit in which nobody did anything yet
pub record IsFirstSeat (heap : HeapShown) (unit : ℕ) (s : UnitShown) : Type 0 where
  pub inside : unit < units_of heap.opening.layout
  pub shows : s ≡ record { table = heap.table; known = first_unit heap.opening unit }

-- those of all units, by their numbers
pub record AreFirstSeats (heap : HeapShown) (units : List UnitShown) : Type 0 where
  pub many : length units ≡ units_of heap.opening.layout
  pub each : EachAt (IsFirstSeat heap) units

-- the structures of the heap's units from one on
abbrev pub AreUnitsFrom : {I Z : Type 0} → HeapShown → ℕ → List (Box (Structure I) Z) → Type 0
AreUnitsFrom heap unit [] = units_of heap.opening.layout ≤ unit
AreUnitsFrom heap unit (b ∷ bs) = StandsAt heap unit b.value × AreUnitsFrom heap (suc unit) bs
