use Rattle.store.specs.StoreCalls.{IsSamePass}
use Rattle.store_bench.proofs.timed_callers.tick_along.Given as goal

abbrev pub invariant-loop : goal.invariant-loop
invariant-loop g l = IsSamePass l.initial.pass l.pass
