use Rattle.std.proofs.Common.{◌≡◌, length}
use Rattle.job_text.specs.Runs.{spelled_all, HaveRuns}
use Rattle.job_text.specs.TextParts.{AllFrom}
use Rattle.job_text.specs.Readings.{Reads}
use Rattle.job_text.specs.ReportText.{histories_lines}
use Rattle.job_text.specs.ReportRanges.{IsSpelled, AreCounted}
use Rattle.job_text.proofs.history_reader.next_histories.Given as goal

-- the histories so far were read
abbrev pub invariant-loop-unit : goal.invariant-loop-unit
invariant-loop-unit l =
    Reads (AllFrom (λ unit h. AreCounted (IsSpelled l.fn.callers) h) 0) histories_lines l.fn.lines l.lines
    (spelled_all l.histories l.runs)
    × (length l.histories ≡ l.unit) × HaveRuns l.histories l.runs
