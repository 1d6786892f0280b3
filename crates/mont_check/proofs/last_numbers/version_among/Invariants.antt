use Rattle.std.proofs.Common.{◌≡◌, take}
use Rattle.mont_base.specs.Counting.{greatest_by, version_if}
use Rattle.mont_check.proofs.last_numbers.version_among.Given as goal

abbrev pub invariant-loop-object : goal.invariant-loop-object
invariant-loop-object l = l.greatest ≡ greatest_by (version_if l.thing) (take l.object-index l.objects)
