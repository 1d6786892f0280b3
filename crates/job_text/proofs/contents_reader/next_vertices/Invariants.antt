use Rattle.std.proofs.Common.{◌≡◌, length}
use Rattle.std.specs.FinMap.{entries}
use Rattle.job_text.specs.Ranks.{LeavesRoom, limit_after, numbers_behind}
use Rattle.job_text.specs.Readings.{Reads}
use Rattle.job_text.specs.ReportText.{vertex_words}
use Rattle.job_text.specs.ReportRanges.{IsVertex}
use Rattle.job_text.specs.ReportRows.{RowsOf, vertex_behind, all_vertices, behind_last}
use Rattle.job_text.proofs.contents_reader.next_vertices.Given as goal

-- the vertices so far were read, and which is the last
abbrev pub invariant-loop-place : goal.invariant-loop-place
invariant-loop-place l =
    Reads (λ xs. LeavesRoom (λ place. IsVertex) vertex_behind all_vertices l.fn.count xs) (RowsOf vertex_words) l.fn.lines l.lines
    (entries l.state.vertices)
    × (length (entries l.state.vertices) ≡ l.place)
    × (limit_after vertex_behind all_vertices (entries l.state.vertices) ≡ behind_last numbers_behind all_vertices l.last)
    × (l.state.edges ≡ l.fn.state.edges)
