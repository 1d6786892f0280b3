use Rattle.std.proofs.Common.{length, codes}
use Rattle.std.proofs.lemmas.Result.{MatchResult-weaker}
use Rattle.job_text.specs.TextParts.{rows_from}
use Rattle.job_text.specs.Readings.{Refuses}
use Rattle.job_text.specs.ReportText.{history_lines}
use Rattle.job_text.specs.ReportRanges.{IsSpelled, AreCounted}
use Rattle.job_text.specs.ReportRows.{AllOf, count_words}
use Rattle.job_text.proofs.ReadLines.{at_exit}
use Rattle.job_text.proofs.RowParts.{count_part}
use Rattle.job_text.proofs.ListParts.{sized_reads, sized_refuses_head, sized_refuses_rest}
use Rattle.job_text.proofs.HistoryParts.{FewCallers, EntryAt, entry_rows, some_entries, history_is, history_back, history_rows}
use Rattle.job_text.proofs.history_reader.next_history.Goals as goal

pub returns-in_err-count : goal.returns-in_err-count
returns-in_err-count c =
    let few : FewCallers c.args.callers = (c.requires, c.ranges.callers.fits) in
    at_exit c.from_residual.result c.in_err-count.field-0.0 _
    (Refuses (AreCounted (IsSpelled c.args.callers)) (history_lines c.args.unit) c.args.lines.now) c.from_residual.ensures.1
    (sized_refuses_head (count_words (codes "unit") c.args.unit) (count_part (codes "unit") c.args.unit) (AllOf
    (EntryAt c.args.callers few))
    (rows_from (entry_rows c.args.callers few) 0) length (λ n h is. is.1) (AreCounted (IsSpelled c.args.callers))
    (history_lines c.args.unit)
    (history_is c.args.callers few) (history_back c.args.callers few) (history_rows c.args.callers few c.args.unit)
    (some_entries c.args.callers few) c.args.lines.now _ c.in_err-count.ensures)

pub returns : goal.returns
returns c =
    let few : FewCallers c.args.callers = (c.requires, c.ranges.callers.fits) in
    MatchResult-weaker c.next_entries.result c.next_entries.ensures
    (λ p read. (
      read.0,
      sized_reads (count_words (codes "unit") c.args.unit) (count_part (codes "unit") c.args.unit) (AllOf (EntryAt c.args.callers few))
          (rows_from (entry_rows c.args.callers few) 0) length (λ n h is. is.1) (AreCounted (IsSpelled c.args.callers))
          (history_lines c.args.unit)
          (history_is c.args.callers few) (history_back c.args.callers few)
          (history_rows c.args.callers few c.args.unit) _ _ _ c.in_ok-count.count _
          c.in_ok-count.ensures read.1,
    ))
    (λ e refuses.
    sized_refuses_rest (count_words (codes "unit") c.args.unit) (count_part (codes "unit") c.args.unit) (AllOf
    (EntryAt c.args.callers few))
    (rows_from (entry_rows c.args.callers few) 0) length (λ n h is. is.1) (AreCounted (IsSpelled c.args.callers))
    (history_lines c.args.unit)
    (history_is c.args.callers few) (history_back c.args.callers few)
    (history_rows c.args.callers few c.args.unit) _ _ c.in_ok-count.count e
    c.in_ok-count.ensures refuses)
