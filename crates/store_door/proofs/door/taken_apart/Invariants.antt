use Rattle.std.proofs.Common.{◌≡◌, map}
use Rattle.store_door.proofs.door.taken_apart.Given as goal

abbrev pub invariant-loop-one : goal.invariant-loop-one
invariant-loop-one g l = record {
  passes : l.passes.items ≡ map (λ a. a.pass) l.yielded;
  works : l.works.items ≡ map (λ a. a.work) l.yielded;
}
