-- The objects so far are those of the units so far.
use Rattle.std.proofs.Common.{◌≡◌, ◌++◌, map}
use Rattle.recover.proofs.image_opening.objects_of.Given as goal

abbrev pub invariant-loop-unit : goal.invariant-loop-unit
invariant-loop-unit l = record {
  units : l.yielded ++ l.unit-iterator.rest.items ≡ l.fn.found;
  objects : map (λ v. v.items) l.objects.items ≡ map (λ f. f.objects) l.yielded;
}
