use Rattle.std.proofs.Common.{ℕ, ◌<◌, take}
use Rattle.plain.specs.States.{state_of}
use Rattle.job_text.specs.PlainReport.{report_of}
use Rattle.report_check.specs.HeldEntries.{FrontHolds}
use Rattle.report_check.proofs.WalkedEntries.{HasWalked}
use Rattle.report_check.proofs.failing_entry.first_apart.Given as goal

abbrev pub invariant-loop-place : goal.invariant-loop-place
invariant-loop-place l = record {
  walked :
      HasWalked (report_of l.report) l.unit (state_of l.fn.base) l.fn.runs (take l.place l.entries) (state_of l.state) l.newest
      l.left;
  below : (p : ℕ) → p < l.place → FrontHolds (report_of l.report) l.unit (state_of l.fn.base) l.fn.runs l.entries p;
}
