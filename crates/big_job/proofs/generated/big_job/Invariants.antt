use Rattle.std.proofs.Common.{◌≡◌}
use Rattle.big_job.specs.Generated.{lines_of_callers}
use Rattle.big_job.proofs.generated.big_job.Given as goal

abbrev pub invariant-loop-caller : goal.invariant-loop-caller
invariant-loop-caller l = l.lines ≡ lines_of_callers l.number 5000 l.caller
