-- What stands of a unit between two calls, as its lock keeps it.
use Rattle.std.specs.Prelude.{◌≡◌, false, List, None, IsTrue}
use Rattle.std.proofs.Props.{props}
use Rattle.mont_base.specs.Image.{clock_of, IsRecovered}
use Rattle.mont_base.specs.Layout.{units_of}
use Rattle.mont_base.specs.History.{state_after}
use Rattle.mont_base.specs.State.{State}
use Rattle.mont_laws.specs.Structures.{HasStructure}
use Rattle.core_steps.specs.Opened.{opened_at}
use Rattle.core_steps.specs.Sound.{base_state}
use Rattle.heap.specs.HeapShown.{HeapShown}
use Rattle.heap_rule.specs.declared.views.UnitKnown.{UnitKnown}
use Rattle.heap_rule.specs.Views.{are_clean, home_turn}
use Rattle.slots.specs.Books.{RegionShown, IsRegionOf, IsAtRest}

-- no operation is under way, and the unit's list is at home
pub record IsIdle (h : UnitKnown) : Type 0 where
  pub rests : IsAtRest h.part
  pub home : h.turn ≡ home_turn

-- A region of the heap whose seat knows every unit to be clean and whose list isn't out. It is idle
-- unless a caller was cut in it.
pub record IsStanding (heap : HeapShown) (r : RegionShown) : Type 0 where
  pub of_heap : IsRegionOf heap r
  pub clean : IsTrue (are_clean (units_of heap.opening.layout) r.seat.known.clean)
  pub home : r.seat.known.turn.out ≡ false
  pub idle : r.books.halted ≡ None → IsIdle r.seat.known

-- it does in one way at most
pub standing_once : (heap : HeapShown) (r : RegionShown) → IsProp (IsStanding heap r)
standing_once heap r = hlevel props

-- The records show the state to which the unit's history leads from what recovery gave it when the
-- store was opened.
abbrev pub ShowsHistory : HeapShown → RegionShown → Type 0
ShowsHistory heap r =
    (states : List State) → IsRecovered heap.opening.layout heap.opening.words states
    → HasStructure heap.opening.layout r.books.unit r.seat.known.part.records
    (state_after (base_state (opened_at (clock_of heap.opening.words) states) r.books.unit)
    r.seat.known.part.history)
