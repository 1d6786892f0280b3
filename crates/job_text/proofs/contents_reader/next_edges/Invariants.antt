use Rattle.std.proofs.Common.{◌≡◌, length}
use Rattle.std.specs.FinMap.{entries}
use Rattle.job_text.specs.Ranks.{LeavesRoom, limit_after, edges_behind}
use Rattle.job_text.specs.Readings.{Reads}
use Rattle.job_text.specs.ReportText.{edge_words}
use Rattle.job_text.specs.ReportRanges.{IsEdge}
use Rattle.job_text.specs.ReportRows.{RowsOf, edge_behind, all_edges, behind_last}
use Rattle.job_text.proofs.contents_reader.next_edges.Given as goal

-- the edges so far were read, and which is the last
abbrev pub invariant-loop-place : goal.invariant-loop-place
invariant-loop-place l =
    Reads (λ xs. LeavesRoom (λ place. IsEdge) edge_behind all_edges l.fn.count xs) (RowsOf edge_words) l.fn.lines l.lines
    (entries l.state.edges)
    × (length (entries l.state.edges) ≡ l.place)
    × (limit_after edge_behind all_edges (entries l.state.edges) ≡ behind_last edges_behind all_edges l.last)
    × (l.state.vertices ≡ l.fn.state.vertices)
