use Rattle.std.proofs.Common.{◌≡◌, false}
use Rattle.recovery_cases.proofs.Leaving.{GoesOn}
use Rattle.recovery_cases.proofs.chains.swept.Given as goal

abbrev pub invariant-loop : goal.invariant-loop
invariant-loop g l = record { new : l.left.old ≡ false; goes_on : GoesOn l.fn.image l.left }
