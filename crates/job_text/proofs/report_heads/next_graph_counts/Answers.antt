use Rattle.job_text.specs.ReportRanges.{IsVertex}
use Rattle.job_text.specs.ReportRows.{line_of_row, graph_counts}
use Rattle.job_text.proofs.RowParts.{graph_part}
use Rattle.job_text.specs.Readings.{Refuses}
use Rattle.job_text.proofs.ReadLines.{reads_words, refuses_none, refuses_words, at_exit}
use Rattle.job_text.proofs.report_heads.next_graph_counts.Goals as goal

pub returns-in_err-words : goal.returns-in_err-words
returns-in_err-words c =
    at_exit c.from_residual.result c.in_err-words.field-0.0 _ (Refuses IsVertex (line_of_row
    (graph_counts c.args.unit)) c.args.lines.now) c.from_residual.ensures.1
    (refuses_none IsVertex (graph_counts c.args.unit) (graph_part c.args.unit) c.args.lines.now _ c.in_err-words.ensures)

pub returns-in-Some : goal.returns-in-Some
returns-in-Some c =
    reads_words IsVertex (graph_counts c.args.unit) (graph_part c.args.unit) _ _ _ _ c.in_ok-words.ensures c.as_slice.ensures.value
    c.in-Some.counts c.in-Some.ensures

pub returns-in-None : goal.returns-in-None
returns-in-None c =
    refuses_words IsVertex (graph_counts c.args.unit) (graph_part c.args.unit) _ _ _ _ c.in_ok-words.ensures c.as_slice.ensures.value
    _ c.refused.ensures c.in-None.ensures
