use Rattle.std.proofs.Common.{◌≡◌, ◌++◌, length, map}
use Rattle.std.specs.Vec.Iter.{into_iter_items}
use Rattle.store_door.proofs.door.brought_together.Given as goal

abbrev pub invariant-loop-pass : goal.invariant-loop-pass
invariant-loop-pass g l = record {
  callers : l.yielded ++ l.pass-iterator.rest.items ≡ l.fn.passes.items;
  passes : map (λ a. a.pass) l.at_work.items ≡ l.yielded;
  works : map (λ a. a.work) l.at_work.items ++ into_iter_items l.works ≡ l.fn.works.items;
  as_many : length (into_iter_items l.works) ≡ length l.pass-iterator.rest.items;
}
