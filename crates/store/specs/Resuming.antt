-- The regions and the objects with which a store goes on.
use Rattle.std.specs.Prelude.{◌≡◌, List, length, All}
use Rattle.mont_base.specs.declared.record.Object.{Object}
use Rattle.mont_base.specs.Layout.{units_of}
use Rattle.core_steps.specs.Places.{EachAt}
use Rattle.heap.specs.HeapShown.{HeapShown}
use Rattle.slots.specs.Books.{RegionShown}
use Rattle.found_regions.specs.FoundRegion.{IsRegionFound, IsRegionSwept}
use Rattle.recover.specs.Recovery.{AreLiveObjects}

-- those of all units, by their numbers, with no slot beyond the cut open
pub record AreRegionsSwept (heap : HeapShown) (regions : List RegionShown) : Type 0 where
  pub many : length regions ≡ units_of heap.opening.layout
  pub found : EachAt (IsRegionFound heap) regions
  pub swept : All (IsRegionSwept heap) regions

-- the live objects of all units, by their numbers
pub record AreObjectsOf (heap : HeapShown) (objects : List (List Object)) : Type 0 where
  pub many : length objects ≡ units_of heap.opening.layout
  pub each : EachAt (AreLiveObjects heap) objects
