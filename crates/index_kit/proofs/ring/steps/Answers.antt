use Rattle.std.proofs.Common.{arith}
use Rattle.std.proofs.lemmas.Bool.Decides.{nat_tests}
use Rattle.index_kit.specs.Ring.{steps}
use Rattle.index_kit.proofs.ring.steps.Goals as goal

pub returns-then-from-to : goal.returns-then-from-to
unfolding steps
returns-then-from-to c = grind (arith, nat_tests)

pub returns-else-from-to : goal.returns-else-from-to
unfolding steps
returns-else-from-to c = grind (arith, nat_tests)
