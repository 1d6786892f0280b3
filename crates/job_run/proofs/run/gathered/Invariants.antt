use Rattle.std.proofs.Common.{◌≡◌, map}
use Rattle.std.specs.Prelude.{Some}
use Rattle.job_run.proofs.run.gathered.Given as goal

abbrev pub invariant-loop-of_caller : goal.invariant-loop-of_caller
invariant-loop-of_caller l = l.yielded ≡ map Some l.outcomes
