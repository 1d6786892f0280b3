use Rattle.std.proofs.Common.{◌≡◌, length}
use Rattle.job_text.specs.Runs.{spelled, HasRuns}
use Rattle.job_text.specs.TextParts.{rows_from, AllFrom}
use Rattle.job_text.specs.Readings.{Reads}
use Rattle.job_text.specs.ReportText.{entry_words}
use Rattle.job_text.specs.ReportRanges.{IsSpelled}
use Rattle.job_text.specs.ReportRows.{line_of_row}
use Rattle.job_text.proofs.entry_reader.next_entries.Given as goal

-- the entries so far were read
abbrev pub invariant-loop-place : goal.invariant-loop-place
invariant-loop-place l =
    Reads (AllFrom (λ place e. IsSpelled l.fn.callers e) 0) (rows_from (λ place. line_of_row
    (entry_words place)) 0) l.fn.lines l.lines (spelled l.entries l.runs)
    × (length l.entries ≡ l.place) × HasRuns l.entries l.runs
