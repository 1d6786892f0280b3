use Rattle.job_text.specs.Readings.{Refuses}
use Rattle.job_text.specs.ReportText.{entry_words}
use Rattle.job_text.specs.ReportRanges.{IsSpelled}
use Rattle.job_text.specs.ReportRows.{line_of_row}
use Rattle.job_text.proofs.ReadLines.{refuses_none, refuses_words, at_exit}
use Rattle.job_text.proofs.AnswerWords.{entry_part}
use Rattle.job_text.proofs.entry_reader.next_entry.Goals as goal

pub returns-in_err-words : goal.returns-in_err-words
returns-in_err-words c =
    at_exit c.from_residual.result c.in_err-words.field-0.0 _
    (Refuses (IsSpelled c.args.callers) (line_of_row (entry_words c.args.place)) c.args.lines.now) c.from_residual.ensures.1
    (refuses_none (IsSpelled c.args.callers) (entry_words c.args.place) (entry_part c.args.callers c.args.place
    (c.requires, c.ranges.callers.fits))
    c.args.lines.now _ c.in_err-words.ensures)

pub returns-in-None : goal.returns-in-None
returns-in-None c =
    refuses_words (IsSpelled c.args.callers) (entry_words c.args.place) (entry_part c.args.callers c.args.place
    (c.requires, c.ranges.callers.fits)) _ _ _ _
    c.in_ok-words.ensures c.as_slice.ensures.value _ c.refused.ensures c.in-None.ensures
