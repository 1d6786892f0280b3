use Rattle.pgraph.proofs.Relisted.{unlists_both}
use Rattle.pgraph.proofs.graph_index.unlist_edge.Goals as goal

pub returns : goal.returns
returns c = unlists_both c.args.ends c.args.vertices.now c.unlist_at.new.vertices c.unlist_at-2.new.vertices c.unlist_at.ensures
    c.unlist_at-2.ensures
