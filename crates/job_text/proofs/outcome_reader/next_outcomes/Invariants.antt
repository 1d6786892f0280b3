use Rattle.std.proofs.Common.{◌≡◌, length}
use Rattle.job_text.specs.TextParts.{rows_from, AllFrom}
use Rattle.job_text.specs.Readings.{Reads}
use Rattle.job_text.specs.ReportText.{outcome_words}
use Rattle.job_text.specs.ReportRanges.{IsOutcomeAt}
use Rattle.job_text.specs.ReportRows.{line_of_row}
use Rattle.job_text.proofs.outcome_reader.next_outcomes.Given as goal

-- the outcomes so far were read
abbrev pub invariant-loop-place : goal.invariant-loop-place
invariant-loop-place l =
    Reads (AllFrom (IsOutcomeAt l.fn.units l.fn.callers l.fn.count) 0) (rows_from (λ place. line_of_row outcome_words) 0) l.fn.lines l.lines
    l.outcomes
    × (length l.outcomes ≡ l.place)
