-- The answered lines of the callers so far.
use Rattle.std.proofs.Common.{◌≡◌, take}
use Rattle.job_store.specs.BigRun.{answered_in}
use Rattle.job_store.proofs.counts.count_answered.Given as goal

abbrev pub invariant-loop-of_caller : goal.invariant-loop-of_caller
invariant-loop-of_caller l = l.count ≡ answered_in (take l.of_caller-index l.outcomes)
