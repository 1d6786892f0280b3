-- What a store kept, out of its locks.
use Rattle.std.specs.Prelude.{◌≡◌, ℕ, length}
use Rattle.mont_base.specs.Layout.{units_of}
use Rattle.plain.specs.declared.contents.Contents.{Contents}
use Rattle.plain.specs.States.{states_of}
use Rattle.core_steps.specs.Places.{EachAt}
use Rattle.heap_rule.specs.declared.rule.Opening.{Opening}
use Rattle.heap.specs.HeapShown.{HeapShown}
use Rattle.heap.specs.Stops.{IsSeatOfUnit, AreAtHome}
use Rattle.store_stop.specs.Headline.{IsBaseOf}
use Rattle.store.specs.declared.store_closing.Unlocked.{Unlocked}

-- The heap, the seats of all its units, by their numbers and each with its list at home, that of
-- the advancer, and what the heap opened with.
pub record IsUnlocked (heap : HeapShown) (u : Unlocked) : Type 0 where
  pub named : u.heap ≡ heap
  pub many : length u.units.items ≡ units_of heap.opening.layout
  pub each : EachAt (IsSeatOfUnit heap) u.units.items
  pub home : AreAtHome u.units.items
  pub advancer : u.advancer.table ≡ heap.table
  pub base : IsBaseOf heap.opening u.base_clock (states_of u.base)

-- The heap opened with some clock and contents.
pub record HasBase (o : Opening) : Type 0 where
  pub clock : ℕ
  pub contents : Contents
  pub base : IsBaseOf o clock (states_of contents)
