use Rattle.std.proofs.Common.{ℕ, ◌<◌}
use Rattle.report_check.specs.Marks.{IsMarkedThere}
use Rattle.report_check.proofs.marks.first_unmarked.Given as goal

abbrev pub invariant-loop-unit : goal.invariant-loop-unit
invariant-loop-unit l = (u : ℕ) → u < l.unit → (p : ℕ) → IsMarkedThere l.marks u p
