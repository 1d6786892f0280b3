use Rattle.std.proofs.Common.{[], refl}
use Rattle.std.proofs.lemmas.List.Elements.{All-nil}
use Rattle.job_text.specs.Operations.{IsNumber}
use Rattle.job_text.specs.Readings.{Refuses}
use Rattle.job_text.specs.ReportRows.{line_of_row, end_words}
use Rattle.job_text.proofs.ReadLines.{refuses_none, refuses_words, at_exit}
use Rattle.job_text.proofs.RowParts.{end_part}
use Rattle.job_text.proofs.report_heads.next_end.Goals as goal

pub returns-in_err-words : goal.returns-in_err-words
returns-in_err-words c =
    at_exit c.from_residual.result c.in_err-words.field-0.0 _ (Refuses (λ _. Unit {0}) (line_of_row end_words) c.args.lines.now)
    c.from_residual.ensures.1 (refuses_none (λ _. Unit {0}) end_words end_part c.args.lines.now _ c.in_err-words.ensures)

pub returns-in-None : goal.returns-in-None
returns-in-None c =
    refuses_words (λ _. Unit {0}) end_words end_part _ _ _ _ c.in_ok-words.ensures c.as_slice.ensures.value _ c.refused.ensures
    (λ x is spelled. c.in-None.ensures [] refl (All-nil IsNumber) spelled)
