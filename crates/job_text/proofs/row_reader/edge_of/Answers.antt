use Rattle.std.proofs.Common.{ℕ}
use Rattle.mont_base.specs.State.{Ends}
use Rattle.job_text.specs.Ranks.{edges_behind}
use Rattle.job_text.specs.ReportText.{edge_words}
use Rattle.job_text.specs.ReportRanges.{IsEdge}
use Rattle.job_text.specs.ReportRows.{behind_last, all_edges}
use Rattle.job_text.proofs.RowParts.{edge_once}
use Rattle.job_text.proofs.KeyRanks.{none_follows, it_follows}
use Rattle.job_text.proofs.row_reader.edge_of.Goals as goal

pub returns-else-edge_may_follow : goal.returns-else-edge_may_follow
returns-else-edge_may_follow c =
    none_follows IsEdge edge_words edge_once (λ (e : Ends × ℕ). e.0) edges_behind
    (behind_last edges_behind all_edges c.args.last) c.args.left _
    (c.in_ok-ends.ends, c.in_ok-ends.attribute) c.edge_may_follow.result c.in_ok-ends.ensures.0 c.in_ok-ends.ensures.1
    c.if-edge_may_follow.false c.edge_may_follow.ensures.1

pub returns-then-edge_may_follow : goal.returns-then-edge_may_follow
returns-then-edge_may_follow c =
    it_follows IsEdge edge_words edge_once (λ (e : Ends × ℕ). e.0) edges_behind
    (behind_last edges_behind all_edges c.args.last) c.args.left _
    (c.in_ok-ends.ends, c.in_ok-ends.attribute) c.edge_may_follow.result c.in_ok-ends.ensures.0 c.in_ok-ends.ensures.1
    c.if-edge_may_follow.true c.edge_may_follow.ensures.0
