use Rattle.std.proofs.Common.{ℕ, ◌<◌, take}
use Rattle.job_text.specs.Outcomes.{times_named}
use Rattle.job_text.specs.PlainReport.{report_of}
use Rattle.report_check.specs.HeldOutcomes.{OutcomeHolds}
use Rattle.report_check.specs.Marks.{AreMarks}
use Rattle.report_check.proofs.failing_outcome.failing_outcome.Given as goal

abbrev pub invariant-loop-caller : goal.invariant-loop-caller
invariant-loop-caller l = record {
  marks : AreMarks l.report.histories (times_named (take l.caller l.report.outcomes)) l.marks;
  below : (u : ℕ) → u < l.caller → (n : ℕ) → OutcomeHolds (report_of l.report) u n;
}
