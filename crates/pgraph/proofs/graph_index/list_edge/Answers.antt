use Rattle.std.specs.Prelude.{◌||◌}
use Rattle.pgraph.specs.GraphIndex.{at_vertex}
use Rattle.pgraph.proofs.Relisted.{lists_both, list_undone, then_keeps}
use Rattle.pgraph.proofs.graph_index.list_edge.Goals as goal

pub returns-in-Err-clause-err : goal.returns-in-Err-clause-err
returns-in-Err-clause-err c =
    list_undone c.args.ends c.args.vertices.now c.list_at-2.new.vertices c.unlist_at.new.vertices c.requires
    (then_keeps (λ v q b. at_vertex c.args.ends.0 c.args.ends v q || b) c.args.vertices.now c.list_at.new.vertices c.list_at-2.new.vertices
    c.in_ok-list_at.ensures.ok c.in-Err.ensures.err)
    c.unlist_at.ensures

pub returns-clause-ok : goal.returns-clause-ok
returns-clause-ok c = lists_both c.args.ends c.args.vertices.now c.list_at.new.vertices c.list_at-2.new.vertices
    c.in_ok-list_at.ensures.ok c.in_default.ensures.ok
