use Rattle.std.proofs.Common.{ℕ, ◌<◌, List}
use Rattle.std.specs.Prelude.{◌↔◌}
use Rattle.mont_base.specs.declared.record.Held.{Held}
use Rattle.job_text.specs.Faithful.{AnsweredAt}
use Rattle.job_text.specs.PlainReport.{report_of}
use Rattle.mont_check.specs.AnsweredCallers.{AllMet}
use Rattle.mont_check.proofs.answered.are_answered.Given as goal

abbrev pub invariant-loop-caller : goal.invariant-loop-caller
invariant-loop-caller l =
    (records : List (List Held))
    → AllMet (report_of l.report) records l.questions.items
    ↔ ((u : ℕ) → u < l.caller → AnsweredAt l.job records (report_of l.report) u)
