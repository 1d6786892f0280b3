use Rattle.job_text.specs.Ranks.{IsNext, numbers_behind}
use Rattle.job_text.specs.ReportRanges.{IsVertex}
use Rattle.job_text.specs.ReportText.{vertex_words}
use Rattle.job_text.specs.ReportRows.{line_of_row, vertex_behind, behind_last, all_vertices}
use Rattle.job_text.proofs.KeyRanks.{vertex_part, vertices_left}
use Rattle.job_text.specs.Readings.{Refuses}
use Rattle.job_text.proofs.ReadLines.{reads_words, refuses_none, refuses_words, at_exit}
use Rattle.job_text.proofs.row_reader.next_vertex.Goals as goal

pub returns-in_err-words : goal.returns-in_err-words
returns-in_err-words c =
    at_exit c.from_residual.result c.in_err-words.field-0.0 _ (Refuses (IsNext IsVertex vertex_behind
    (behind_last numbers_behind all_vertices c.args.last) c.args.left)
    (line_of_row vertex_words) c.args.lines.now) c.from_residual.ensures.1
    (refuses_none (IsNext IsVertex vertex_behind (behind_last numbers_behind all_vertices c.args.last) c.args.left) vertex_words
    (vertex_part (behind_last numbers_behind all_vertices c.args.last) c.args.left c.requires
    (vertices_left c.args.last)) c.args.lines.now _ c.in_err-words.ensures)

pub returns-in-Some : goal.returns-in-Some
returns-in-Some c =
    reads_words (IsNext IsVertex vertex_behind (behind_last numbers_behind all_vertices c.args.last) c.args.left) vertex_words
    (vertex_part (behind_last numbers_behind all_vertices c.args.last) c.args.left c.requires
    (vertices_left c.args.last)) _ _ _ _ c.in_ok-words.ensures c.as_slice.ensures.value c.in-Some.vertex c.in-Some.ensures

pub returns-in-None : goal.returns-in-None
returns-in-None c =
    refuses_words (IsNext IsVertex vertex_behind (behind_last numbers_behind all_vertices c.args.last) c.args.left) vertex_words
    (vertex_part (behind_last numbers_behind all_vertices c.args.last) c.args.left c.requires
    (vertices_left c.args.last)) _ _ _ _ c.in_ok-words.ensures c.as_slice.ensures.value _ c.refused.ensures c.in-None.ensures
