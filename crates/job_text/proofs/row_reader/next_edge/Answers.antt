use Rattle.job_text.specs.Ranks.{IsNext, edges_behind}
use Rattle.job_text.specs.ReportRanges.{IsEdge}
use Rattle.job_text.specs.ReportText.{edge_words}
use Rattle.job_text.specs.ReportRows.{line_of_row, edge_behind, behind_last, all_edges}
use Rattle.job_text.proofs.KeyRanks.{edge_part, edges_left}
use Rattle.job_text.specs.Readings.{Refuses}
use Rattle.job_text.proofs.ReadLines.{reads_words, refuses_none, refuses_words, at_exit}
use Rattle.job_text.proofs.row_reader.next_edge.Goals as goal

pub returns-in_err-words : goal.returns-in_err-words
returns-in_err-words c =
    at_exit c.from_residual.result c.in_err-words.field-0.0 _ (Refuses (IsNext IsEdge edge_behind
    (behind_last edges_behind all_edges c.args.last) c.args.left)
    (line_of_row edge_words) c.args.lines.now) c.from_residual.ensures.1
    (refuses_none (IsNext IsEdge edge_behind (behind_last edges_behind all_edges c.args.last) c.args.left) edge_words (edge_part
    (behind_last edges_behind all_edges c.args.last) c.args.left c.requires
    (edges_left c.args.last)) c.args.lines.now _ c.in_err-words.ensures)

pub returns-in-Some : goal.returns-in-Some
returns-in-Some c =
    reads_words (IsNext IsEdge edge_behind (behind_last edges_behind all_edges c.args.last) c.args.left) edge_words (edge_part
    (behind_last edges_behind all_edges c.args.last) c.args.left c.requires
    (edges_left c.args.last)) _ _ _ _ c.in_ok-words.ensures c.as_slice.ensures.value c.in-Some.edge c.in-Some.ensures

pub returns-in-None : goal.returns-in-None
returns-in-None c =
    refuses_words (IsNext IsEdge edge_behind (behind_last edges_behind all_edges c.args.last) c.args.left) edge_words (edge_part
    (behind_last edges_behind all_edges c.args.last) c.args.left c.requires
    (edges_left c.args.last)) _ _ _ _ c.in_ok-words.ensures c.as_slice.ensures.value _ c.refused.ensures c.in-None.ensures
