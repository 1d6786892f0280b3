use Rattle.std.proofs.Common.{ℕ}
use Rattle.job_text.specs.Ranks.{numbers_behind}
use Rattle.job_text.specs.ReportText.{vertex_words}
use Rattle.job_text.specs.ReportRanges.{IsVertex}
use Rattle.job_text.specs.ReportRows.{behind_last, all_vertices}
use Rattle.job_text.proofs.RowParts.{vertex_once}
use Rattle.job_text.proofs.KeyRanks.{none_follows, it_follows}
use Rattle.job_text.proofs.row_reader.vertex_of.Goals as goal

pub returns-else-vertex_may_follow : goal.returns-else-vertex_may_follow
returns-else-vertex_may_follow c =
    none_follows IsVertex vertex_words vertex_once (λ (v : ℕ × ℕ). v.0) numbers_behind
    (behind_last numbers_behind all_vertices c.args.last) c.args.left _
    (c.in_ok-vertex.vertex, c.in_ok-vertex.attribute) c.vertex_may_follow.result c.in_ok-vertex.ensures.0 c.in_ok-vertex.ensures.1
    c.if-vertex_may_follow.false c.vertex_may_follow.ensures.1

pub returns-then-vertex_may_follow : goal.returns-then-vertex_may_follow
returns-then-vertex_may_follow c =
    it_follows IsVertex vertex_words vertex_once (λ (v : ℕ × ℕ). v.0) numbers_behind
    (behind_last numbers_behind all_vertices c.args.last) c.args.left _
    (c.in_ok-vertex.vertex, c.in_ok-vertex.attribute) c.vertex_may_follow.result c.in_ok-vertex.ensures.0 c.in_ok-vertex.ensures.1
    c.if-vertex_may_follow.true c.vertex_may_follow.ensures.0
