-- The units so far have no lost slot.
use Rattle.std.proofs.Common.{◌≡◌, ◌≤◌, length, take, [], false}
use Rattle.std.specs.Prelude.{All}
use Rattle.core_steps.specs.Places.{EachAt}
use Rattle.heap.specs.GateAsked.{IsAskedOften}
use Rattle.slots.specs.Books.{RegionShown}
use Rattle.found_regions.specs.FoundRegion.{IsRegionFound}
use Rattle.recover.specs.Recovery.{lost_in}
use Rattle.recover.proofs.lost_slots.close_lost_slots.Given as goal

abbrev pub invariant-loop-unit : goal.invariant-loop-unit
invariant-loop-unit g l = record {
  gate : IsAskedOften g.G.Gate.cuts g.G.Gate.endless l.fn.gate l.gate false;
  many : length l.regions ≡ length l.fn.regions;
  found : EachAt (IsRegionFound l.heap) l.regions;
  fewer : lost_in l.regions ≤ lost_in l.fn.regions;
  none : All (λ (r : RegionShown). r.books.lost ≡ []) (take l.unit l.regions);
}
