use Rattle.store.specs.StoreCalls.{IsSamePass}
use Rattle.store_bench.proofs.made_calls.call_all.Given as goal

abbrev pub invariant-loop-op : goal.invariant-loop-op
invariant-loop-op g l = IsSamePass l.initial.pass l.pass
