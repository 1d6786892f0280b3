-- The answered lines among those so far.
use Rattle.std.proofs.Common.{◌≡◌, take}
use Rattle.std.specs.Prelude.{count_by}
use Rattle.job_text.specs.Outcomes.{is_at}
use Rattle.job_store.proofs.counts.answered_by_one.Given as goal

abbrev pub invariant-loop-outcome : goal.invariant-loop-outcome
invariant-loop-outcome l = l.count ≡ count_by is_at (take l.outcome-index l.outcomes)
