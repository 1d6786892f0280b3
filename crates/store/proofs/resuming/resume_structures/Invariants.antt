-- The structures so far are those of the regions so far.
use Rattle.std.proofs.Common.{◌≡◌, ◌+◌, ◌≤◌, ◌++◌, length, map}
use Rattle.std.specs.Prelude.{vec_capacity}
use Rattle.std.specs.FinMap as finite
use Rattle.std.specs.Vec.Iter.{into_iter_items}
use Rattle.core_steps.specs.Places.{EachAt}
use Rattle.store.specs.MapBoxes.{AreLeft}
use Rattle.store.specs.UnitAt.{StandsAt}
use Rattle.store.proofs.resuming.resume_structures.Given as goal

abbrev pub invariant-loop-region : goal.invariant-loop-region
invariant-loop-region g l = record {
  regions : l.yielded ++ l.region-iterator.rest.items ≡ l.fn.regions.items;
  many : length l.structures.items ≡ length l.yielded;
  room : length l.structures.items + length l.region-iterator.rest.items ≤ vec_capacity l.structures;
  each : EachAt (λ i b. StandsAt g.N.HeapName.heap i b.value) l.structures.items;
  left : AreLeft l.layout (map (λ b. finite.len (g.I.Index.places b)) l.fn.indexes.items) (length l.structures.items)
      (map (λ b. finite.len (g.I.Index.places b)) (into_iter_items l.boxes));
}
