use Rattle.store.specs.StoreCalls.{IsSamePass}
use Rattle.store_bench.proofs.whole_stores.fill.Given as goal

abbrev pub invariant-loop-time : goal.invariant-loop-time
invariant-loop-time g l = IsSamePass l.initial.pass l.pass
