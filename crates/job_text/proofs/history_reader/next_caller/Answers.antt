use Rattle.std.proofs.Common.{length, codes}
use Rattle.std.proofs.lemmas.Result.{MatchResult-weaker}
use Rattle.job_text.specs.TextParts.{rows_from}
use Rattle.job_text.specs.Readings.{Refuses}
use Rattle.job_text.specs.ReportText.{caller_lines}
use Rattle.job_text.specs.ReportRanges.{AreOutcomes}
use Rattle.job_text.specs.ReportRows.{count_words}
use Rattle.job_text.proofs.ReadLines.{at_exit}
use Rattle.job_text.proofs.RowParts.{count_part}
use Rattle.job_text.proofs.ListParts.{sized_reads, sized_refuses_head, sized_refuses_rest}
use Rattle.job_text.proofs.HistoryParts.{OutcomesOf, outcome_rows, some_outcomes, caller_is, caller_back, caller_rows}
use Rattle.job_text.proofs.history_reader.next_caller.Goals as goal

pub returns-in_err-count : goal.returns-in_err-count
returns-in_err-count c =
    let u = c.args.units in
    let n = c.args.callers in
    at_exit c.from_residual.result c.in_err-count.field-0.0 _ (Refuses (AreOutcomes u n) (caller_lines c.args.caller) c.args.lines.now)
    c.from_residual.ensures.1
    (sized_refuses_head (count_words (codes "caller") c.args.caller) (count_part (codes "caller") c.args.caller) (OutcomesOf u n)
    (rows_from (outcome_rows u n) 0) length (λ n os is. is.1) (AreOutcomes u n) (caller_lines c.args.caller) (caller_is u n)
    (caller_back u n)
    (caller_rows u n c.args.caller) (some_outcomes u n) c.args.lines.now _ c.in_err-count.ensures)

pub returns : goal.returns
returns c =
    let u = c.args.units in
    let n = c.args.callers in
    MatchResult-weaker c.next_outcomes.result c.next_outcomes.ensures
    (λ os read.
    sized_reads (count_words (codes "caller") c.args.caller) (count_part (codes "caller") c.args.caller) (OutcomesOf u n)
    (rows_from (outcome_rows u n) 0) length (λ n os is. is.1) (AreOutcomes u n) (caller_lines c.args.caller) (caller_is u n)
    (caller_back u n)
    (caller_rows u n c.args.caller) _ _ _ c.in_ok-count.count os c.in_ok-count.ensures read)
    (λ e refuses.
    sized_refuses_rest (count_words (codes "caller") c.args.caller) (count_part (codes "caller") c.args.caller) (OutcomesOf u n)
    (rows_from (outcome_rows u n) 0) length (λ n os is. is.1) (AreOutcomes u n) (caller_lines c.args.caller) (caller_is u n)
    (caller_back u n)
    (caller_rows u n c.args.caller) _ _ c.in_ok-count.count e c.in_ok-count.ensures refuses)
