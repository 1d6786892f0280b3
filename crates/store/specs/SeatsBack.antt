-- The seats of a store's units, as they are taken back one after the other.
use Rattle.std.specs.Prelude.{◌≡◌, ℕ, min, List, length}
use Rattle.mont_base.specs.Layout.{units_of}
use Rattle.core_steps.specs.Places.{EachAt}
use Rattle.heap.specs.HeapShown.{HeapShown, UnitShown}
use Rattle.heap.specs.Stops.{IsSeatOfUnit, AreAtHome}

-- those of the first so many units, each with its list at home
pub record AreSeatsBelow (heap : HeapShown) (number : ℕ) (seats : List UnitShown) : Type 0 where
  pub many : length seats ≡ min number (units_of heap.opening.layout)
  pub each : EachAt (IsSeatOfUnit heap) seats
  pub home : AreAtHome seats
