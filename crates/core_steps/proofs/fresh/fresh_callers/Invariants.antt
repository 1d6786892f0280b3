use Rattle.std.proofs.Common.{◌≡◌, replicate}
use Rattle.core_steps.specs.Fresh.{fresh_caller}
use Rattle.core_steps.proofs.fresh.fresh_callers.Given as goal

abbrev pub invariant-loop-caller : goal.invariant-loop-caller
invariant-loop-caller l = l.callers ≡ replicate l._caller (fresh_caller l.units)
