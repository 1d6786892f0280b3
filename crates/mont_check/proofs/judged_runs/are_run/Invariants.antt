use Rattle.std.proofs.Common.{ℕ, ◌<◌}
use Rattle.plain.specs.States.{states_of}
use Rattle.job_text.specs.PlainReport.{report_of}
use Rattle.job_text.specs.Faithful.{RunsAt}
use Rattle.mont_check.proofs.judged_runs.are_run.Given as goal

abbrev pub invariant-loop-unit : goal.invariant-loop-unit
invariant-loop-unit l = (u : ℕ) → u < l.unit → RunsAt (report_of l.report) (states_of l.base) u
