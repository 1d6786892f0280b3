use Rattle.std.proofs.Common.{◌≡◌, length}
use Rattle.job_text.specs.Operations.{IsNumber}
use Rattle.job_text.specs.TextParts.{AllFrom}
use Rattle.job_text.specs.Readings.{Reads}
use Rattle.job_text.specs.ReportText.{item_words}
use Rattle.job_text.specs.ReportRows.{RowsOf}
use Rattle.job_text.proofs.contents_reader.next_items.Given as goal

-- the items so far were read
abbrev pub invariant-loop-place : goal.invariant-loop-place
invariant-loop-place l =
    Reads (AllFrom (λ place. IsNumber) 0) (RowsOf item_words) l.fn.lines l.lines l.state × (length l.state ≡ l._place)
