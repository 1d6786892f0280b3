use Rattle.std.proofs.Common.{ℕ, ◌<◌}
use Rattle.job_text.specs.PlainReport.{report_of}
use Rattle.report_check.specs.HeldContents.{ContentsHold}
use Rattle.report_check.proofs.other_contents.other_unit.Given as goal

abbrev pub invariant-loop-unit : goal.invariant-loop-unit
invariant-loop-unit l = (u : ℕ) → u < l.unit → ContentsHold (report_of l.report) l.image.words u
