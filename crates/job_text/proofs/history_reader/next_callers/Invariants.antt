use Rattle.std.proofs.Common.{◌≡◌, length}
use Rattle.job_text.specs.TextParts.{AllFrom}
use Rattle.job_text.specs.Readings.{Reads}
use Rattle.job_text.specs.ReportText.{outcomes_lines}
use Rattle.job_text.specs.ReportRanges.{AreOutcomes}
use Rattle.job_text.proofs.history_reader.next_callers.Given as goal

-- the outcomes so far were read
abbrev pub invariant-loop-caller : goal.invariant-loop-caller
invariant-loop-caller l =
    Reads (AllFrom (λ caller os. AreOutcomes l.fn.units l.fn.callers os) 0) outcomes_lines l.fn.lines l.lines l.outcomes
    × (length l.outcomes ≡ l.caller)
