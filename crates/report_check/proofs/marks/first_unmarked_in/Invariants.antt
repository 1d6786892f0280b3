use Rattle.std.proofs.Common.{ℕ, ◌<◌}
use Rattle.report_check.specs.Marks.{IsMarkedThere}
use Rattle.report_check.proofs.marks.first_unmarked_in.Given as goal

abbrev pub invariant-loop-place : goal.invariant-loop-place
invariant-loop-place l = (p : ℕ) → p < l.place → IsMarkedThere l.marks l.unit p
