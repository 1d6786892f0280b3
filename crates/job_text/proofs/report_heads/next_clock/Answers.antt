use Rattle.job_text.specs.Operations.{IsNumber}
use Rattle.job_text.specs.ReportRows.{line_of_row, clock_words}
use Rattle.job_text.proofs.RowParts.{clock_part}
use Rattle.job_text.specs.Readings.{Refuses}
use Rattle.job_text.proofs.ReadLines.{reads_words, refuses_none, refuses_words, at_exit}
use Rattle.job_text.proofs.report_heads.next_clock.Goals as goal

pub returns-in_err-words : goal.returns-in_err-words
returns-in_err-words c =
    at_exit c.from_residual.result c.in_err-words.field-0.0 _ (Refuses IsNumber (line_of_row
    (clock_words c.args.word.now)) c.args.lines.now) c.from_residual.ensures.1
    (refuses_none IsNumber (clock_words c.args.word.now) (clock_part c.args.word.now) c.args.lines.now _ c.in_err-words.ensures)

pub returns-in-Some : goal.returns-in-Some
returns-in-Some c =
    reads_words IsNumber (clock_words c.args.word.now) (clock_part c.args.word.now) _ _ _ _ c.in_ok-words.ensures
    c.as_slice.ensures.value c.in-Some.clock c.in-Some.ensures

pub returns-in-None : goal.returns-in-None
returns-in-None c =
    refuses_words IsNumber (clock_words c.args.word.now) (clock_part c.args.word.now) _ _ _ _ c.in_ok-words.ensures
    c.as_slice.ensures.value _ c.refused.ensures c.in-None.ensures
