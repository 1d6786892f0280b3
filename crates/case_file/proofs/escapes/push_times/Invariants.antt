use Rattle.std.proofs.Common.{length}
use Rattle.case_file.proofs.escapes.push_times.Given as goal

abbrev pub decreases-loop-rest : goal.decreases-loop-rest
decreases-loop-rest l = length l.rest
