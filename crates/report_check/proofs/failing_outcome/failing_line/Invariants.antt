use Rattle.std.proofs.Common.{ℕ, ◌<◌, take}
use Rattle.job_text.specs.PlainReport.{report_of}
use Rattle.report_check.specs.HeldOutcomes.{OutcomeHolds, times_before}
use Rattle.report_check.specs.Marks.{AreMarks}
use Rattle.report_check.specs.ShownNames.{HaveShown}
use Rattle.report_check.proofs.failing_outcome.failing_line.Given as goal

abbrev pub invariant-loop-line : goal.invariant-loop-line
invariant-loop-line l = record {
  shown : HaveShown l.report.histories (take l.line l.outcomes) l.shown;
  marks : AreMarks l.report.histories (times_before (report_of l.report) l.caller (take l.line l.outcomes)) l.marks;
  below : (n : ℕ) → n < l.line → OutcomeHolds (report_of l.report) l.caller n;
}
