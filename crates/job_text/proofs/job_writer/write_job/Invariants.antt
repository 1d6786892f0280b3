use Rattle.std.proofs.Common.{◌≡◌, [], take}
use Rattle.std.specs.String.{string_bytes}
use Rattle.job_text.specs.Grammar.{head_of, job_of}
use Rattle.job_text.specs.JobText.{job_text}
use Rattle.job_text.proofs.job_writer.write_job.Given as goal

-- the header and the stops so far are written
abbrev pub invariant-loop-stop : goal.invariant-loop-stop
invariant-loop-stop l = string_bytes l.text ≡ job_text (job_of (head_of l.job) (take l.stop-index l.stop-items) [])

-- all of this and the lines so far are written
abbrev pub invariant-loop-line : goal.invariant-loop-line
invariant-loop-line l = string_bytes l.text ≡ job_text (job_of (head_of l.job) l.job.stops (take l.line-index l.line-items))
