use Rattle.std.proofs.Common.{◌≡◌, ◌+◌, ◌≤◌, ◌++◌, length, map}
use Rattle.std.specs.Prelude.{vec_capacity}
use Rattle.std.specs.FinMap as finite
use Rattle.std.specs.Vec.Iter.{into_iter_items}
use Rattle.core_steps.specs.Places.{EachAt}
use Rattle.store.specs.MapBoxes.{AreLeft}
use Rattle.store.specs.UnitAt.{StandsAt}
use Rattle.store.proofs.first_opening.open_structures.Given as goal

abbrev pub invariant-loop-seat : goal.invariant-loop-seat
invariant-loop-seat g l = record {
  seats : l.yielded ++ l.seat-iterator.rest.items ≡ l.fn.seats.items;
  many : length l.structures.items ≡ length l.yielded;
  room : length l.structures.items + length l.seat-iterator.rest.items ≤ vec_capacity l.structures;
  each : EachAt (λ i b. StandsAt g.N.HeapName.heap i b.value) l.structures.items;
  left : AreLeft l.layout (map (λ b. finite.len (g.I.Index.places b)) l.fn.indexes.items) (length l.structures.items)
      (map (λ b. finite.len (g.I.Index.places b)) (into_iter_items l.boxes));
}
