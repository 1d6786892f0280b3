use Rattle.std.proofs.Common.{ap, sym, subst, ◌∙◌}
use Rattle.pgraph.specs.GraphIndex.{Nodes, IsIndex, nodes_in, stands_behind, without_edge}
use Rattle.pgraph.proofs.NodeMaps.{edge_removed, vertices_kept, nodes_same}
use Rattle.pgraph.proofs.IndexKept.{edge_gone}
use Rattle.pgraph.proofs.graph_index.GraphIndex.remove_edge.Goals as goal

pub invariant_of-self : goal.invariant_of-self
invariant_of-self c =
    let vs = c.self.inside.vertices in
    let es = c.self.inside.edges in
    let ws = c.unlist_edge.new.vertices in
    let fs = c.remove.new.self in
    let e = c.args.ends in
    let n = nodes_in vs es in
    subst (λ (m : Nodes). IsIndex m (stands_behind ws))
    (sym (nodes_same (nodes_in ws fs) (without_edge n e) (vertices_kept vs ws es fs c.unlist_edge.ensures.nodes)
    (edge_removed vs es fs e c.remove.ensures.taken)))
    (edge_gone n (stands_behind vs) c.self.invariant e (stands_behind ws) c.unlist_edge.ensures.behind)

pub returns : goal.returns
returns c =
    let vs = c.self.inside.vertices in
    let es = c.self.inside.edges in
    let ws = c.unlist_edge.new.vertices in
    let fs = c.remove.new.self in
    let e = c.args.ends in
    nodes_same (nodes_in ws fs) (without_edge (nodes_in vs es) e) (vertices_kept vs ws es fs c.unlist_edge.ensures.nodes)
    (edge_removed vs es fs e c.remove.ensures.taken)
    ∙ ap (λ (m : Nodes). without_edge m e) c.self.view_is
