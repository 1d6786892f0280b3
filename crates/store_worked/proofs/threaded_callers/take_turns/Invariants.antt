-- The pass is still of the same caller.
use Rattle.store.specs.StoreCalls.{IsSamePass}
use Rattle.store_worked.proofs.threaded_callers.take_turns.Given as goal

abbrev pub invariant-loop : goal.invariant-loop
invariant-loop g l = IsSamePass l.fn.pass l.pass
