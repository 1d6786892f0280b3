-- The ticket is still of the same caller.
use Rattle.store_worked.specs.SameCallers.{IsSameCaller}
use Rattle.store_worked.proofs.long_use.use_long.Given as goal

abbrev pub invariant-loop-number : goal.invariant-loop-number
invariant-loop-number g l = IsSameCaller l.fn.pass.ticket l.pass.ticket
