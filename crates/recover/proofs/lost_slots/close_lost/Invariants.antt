-- The slots that are left are so many at most as turns are to come.
use Rattle.std.proofs.Common.{◌≡◌, ◌+◌, ◌≤◌, length, false}
use Rattle.heap.specs.GateAsked.{IsAskedOften}
use Rattle.found_regions.specs.FoundRegion.{IsRegionFound}
use Rattle.recover.proofs.lost_slots.close_lost.Given as goal

abbrev pub invariant-loop-turn : goal.invariant-loop-turn
invariant-loop-turn g l = record {
  gate : IsAskedOften g.G.Gate.cuts g.G.Gate.endless l.fn.gate l.gate false;
  found : IsRegionFound l.heap l.fn.region.seat.known.unit l.region;
  many : l.many ≡ length l.fn.region.books.lost;
  left : length l.region.books.lost + l._turn ≤ l.many;
}
