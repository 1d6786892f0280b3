use Rattle.std.proofs.Common.{ℕ, ◌<◌}
use Rattle.job_text.specs.Causes.{WasCutIn}
use Rattle.job_text.specs.PlainReport.{report_of}
use Rattle.mont_check.proofs.line_answers.is_cut_by_any.Given as goal

abbrev pub invariant-loop-by : goal.invariant-loop-by
invariant-loop-by l = (u : ℕ) → u < l.by → ¬ WasCutIn (report_of l.report) u l.unit
