use Rattle.std.proofs.Common.{ℕ, ◌<◌}
use Rattle.job_text.specs.Faithful.{AllNamedAt}
use Rattle.job_text.specs.PlainReport.{report_of}
use Rattle.mont_check.proofs.named_entries.are_named_once.Given as goal

abbrev pub invariant-loop-unit : goal.invariant-loop-unit
invariant-loop-unit l = (u : ℕ) → u < l.unit → AllNamedAt (report_of l.report) u
