use Rattle.store.specs.StoreCalls.{IsSamePass}
use Rattle.store_bench.proofs.clock_ends.go_round.Given as goal

abbrev pub invariant-loop-round : goal.invariant-loop-round
invariant-loop-round g l = IsSamePass l.initial.pass l.pass
