use Rattle.std.proofs.Common.{◌≡◌, ℕ, ◌+◌, ◌-◌, ◌≤◌, length, drop, Option, Some}
use Rattle.std.specs.Prelude.{slice_get}
use Rattle.job_text.specs.declared.job.Line.{Line}
use Rattle.mont_check.specs.Ahead.{KnowsFirst}
use Rattle.mont_check.specs.Moments.{IsAheadOf}
use Rattle.mont_check.proofs.ahead.places_ahead.Given as goal

-- after each outcome that was passed it is told, and of all of them the first places are known
abbrev pub invariant-loop-passed : goal.invariant-loop-passed
invariant-loop-passed l = record {
  as_many : length l.ahead.items ≡ length l.outcomes;
  each :
      (i : ℕ) (k : Line) (a : Option ℕ) → length l.outcomes ≤ i + l.passed → slice_get l.lines i ≡ Some k
      → slice_get l.ahead.items i ≡ Some a → IsAheadOf l.layout (drop (i + 1) l.outcomes) k.deed a;
  knows : KnowsFirst (drop (length l.outcomes - l.passed) l.outcomes) l.first;
}
