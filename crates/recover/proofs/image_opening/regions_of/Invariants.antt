-- The regions so far are those of the seats so far.
use Rattle.std.proofs.Common.{◌≡◌, ◌+◌, ◌≤◌, ◌++◌, length}
use Rattle.std.specs.Prelude.{vec_capacity}
use Rattle.core_steps.specs.Places.{EachAt}
use Rattle.recover.specs.Recovery.{IsRegionOpened}
use Rattle.recover.proofs.image_opening.regions_of.Given as goal

abbrev pub invariant-loop-seat : goal.invariant-loop-seat
invariant-loop-seat l = record {
  seats : l.yielded ++ l.seat-iterator.rest.items ≡ l.fn.seats.items;
  many : length l.regions.items ≡ length l.yielded;
  room : length l.regions.items + length l.seat-iterator.rest.items ≤ vec_capacity l.regions;
  each : EachAt (IsRegionOpened l.heap) l.regions.items;
}
