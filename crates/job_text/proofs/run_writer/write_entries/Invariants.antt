use Rattle.std.proofs.Common.{◌≡◌, ◌++◌, drop}
use Rattle.std.specs.String.{string_bytes}
use Rattle.job_text.specs.Lines.{text_of}
use Rattle.job_text.specs.Runs.{spelled}
use Rattle.job_text.specs.ReportText.{entry_words}
use Rattle.job_text.specs.ReportRows.{line_of_row}
use Rattle.job_text.specs.TextParts.{rows_from}
use Rattle.job_text.proofs.run_writer.write_entries.Given as goal

-- what is written, with the lines that are left, is the whole
abbrev pub invariant-loop-place : goal.invariant-loop-place
invariant-loop-place l =
    string_bytes l.text
    ++ text_of (rows_from (λ place. line_of_row (entry_words place)) l.place (spelled (drop l.place l.history) l.left))
    ≡ string_bytes l.initial.text ++ text_of (rows_from (λ place. line_of_row (entry_words place)) 0 (spelled l.history l.fn.runs))
