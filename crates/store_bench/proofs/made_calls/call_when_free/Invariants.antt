use Rattle.store.specs.StoreCalls.{IsSamePass}
use Rattle.store_bench.proofs.made_calls.call_when_free.Given as goal

abbrev pub invariant-loop-again : goal.invariant-loop-again
invariant-loop-again g l = IsSamePass l.initial.pass l.pass
