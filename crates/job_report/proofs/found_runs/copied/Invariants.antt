use Rattle.std.proofs.Common.{◌≡◌, take}
use Rattle.job_report.proofs.found_runs.copied.Given as goal

-- the pairs so far
abbrev pub invariant-loop-pair : goal.invariant-loop-pair
invariant-loop-pair l = l.copy ≡ take l.pair-index l.pair-items
