use Rattle.std.proofs.Common.{length}
use Rattle.job_text.specs.Draft.{so_far}
use Rattle.job_text.proofs.Front.{IsFront}
use Rattle.job_text.proofs.parser.parse_job.Given as goal

-- the text begins with that of the job so far, and goes on with the rest
abbrev pub invariant-loop-rest : goal.invariant-loop-rest
invariant-loop-rest l = IsFront l.fn.text (so_far l.draft) l.rest

abbrev pub decreases-loop-rest : goal.decreases-loop-rest
decreases-loop-rest l = length l.rest
