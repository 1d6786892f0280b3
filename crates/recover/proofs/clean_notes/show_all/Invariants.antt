-- The units so far know all to be clean.
use Rattle.std.proofs.Common.{◌≡◌, length, take, []}
use Rattle.std.specs.Prelude.{All}
use Rattle.core_steps.specs.Places.{EachAt}
use Rattle.slots.specs.Books.{RegionShown}
use Rattle.found_regions.specs.FoundRegion.{IsRegionFound, IsRegionSwept}
use Rattle.recover.proofs.clean_notes.show_all.Given as goal

abbrev pub invariant-loop-unit : goal.invariant-loop-unit
invariant-loop-unit l = record {
  many : length l.regions ≡ length l.fn.regions;
  found : EachAt (IsRegionFound l.heap) l.regions;
  none : All (λ (r : RegionShown). r.books.lost ≡ []) l.regions;
  ticket : l.ticket ≡ l.fn.ticket;
  swept : All (IsRegionSwept l.heap) (take l.unit l.regions);
}
