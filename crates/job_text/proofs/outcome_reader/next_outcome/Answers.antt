use Rattle.job_text.specs.ReportRanges.{IsOutcomeAt}
use Rattle.job_text.specs.ReportText.{outcome_words}
use Rattle.job_text.proofs.OutcomeWords.{outcome_part}
use Rattle.job_text.specs.Readings.{Refuses}
use Rattle.job_text.specs.ReportRows.{line_of_row}
use Rattle.job_text.proofs.ReadLines.{reads_words, refuses_none, refuses_words, at_exit}
use Rattle.job_text.proofs.outcome_reader.next_outcome.Goals as goal

pub returns-in_err-words : goal.returns-in_err-words
returns-in_err-words c =
    at_exit c.from_residual.result c.in_err-words.field-0.0 _
    (Refuses (IsOutcomeAt c.args.units c.args.callers c.args.count c.args.place) (line_of_row outcome_words) c.args.lines.now)
    c.from_residual.ensures.1
    (refuses_none (IsOutcomeAt c.args.units c.args.callers c.args.count c.args.place) outcome_words
    (outcome_part c.args.units c.args.callers c.args.count c.args.place) c.args.lines.now _ c.in_err-words.ensures)

pub returns-in-Some : goal.returns-in-Some
returns-in-Some c =
    reads_words (IsOutcomeAt c.args.units c.args.callers c.args.count c.args.place) outcome_words
    (outcome_part c.args.units c.args.callers c.args.count c.args.place) _ _ _ _ c.in_ok-words.ensures c.as_slice.ensures.value
    c.in-Some.outcome c.in-Some.ensures

pub returns-in-None : goal.returns-in-None
returns-in-None c =
    refuses_words (IsOutcomeAt c.args.units c.args.callers c.args.count c.args.place) outcome_words
    (outcome_part c.args.units c.args.callers c.args.count c.args.place) _ _ _ _ c.in_ok-words.ensures c.as_slice.ensures.value _
    c.refused.ensures c.in-None.ensures
