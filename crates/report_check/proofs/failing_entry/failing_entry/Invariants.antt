use Rattle.std.proofs.Common.{ℕ, ◌<◌}
use Rattle.job_text.specs.PlainReport.{report_of}
use Rattle.report_check.specs.HeldEntries.{EntryHolds}
use Rattle.report_check.proofs.failing_entry.failing_entry.Given as goal

abbrev pub invariant-loop-unit : goal.invariant-loop-unit
invariant-loop-unit l = (u : ℕ) → u < l.unit → (p : ℕ) → EntryHolds (report_of l.report) u p
