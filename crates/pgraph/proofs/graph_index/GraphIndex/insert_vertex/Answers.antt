use Rattle.std.proofs.Common.{Some, ap, sym, refl, subst, ◌∙◌}
use Rattle.std.specs.Prelude.{is_some}
use Rattle.std.specs.List.{list_any}
use Rattle.std.specs.BTreeMap.{is_at}
use Rattle.std.specs.BTreeSet.{contains}
use Rattle.std.specs.FinMap as finite
use Rattle.mont_base.specs.State.{edge_cmp}
use Rattle.pgraph.specs.declared.node.VertexNode.{VertexNode}
use Rattle.pgraph.specs.GraphIndex.{Nodes, IsIndex, nodes_in, stands_behind, with_vertex}
use Rattle.pgraph.proofs.NodeMaps.{no_vertex, vertex_inserted, behind_set, nodes_same}
use Rattle.pgraph.proofs.IndexKept.{vertex_put, no_edge_at}
use Rattle.pgraph.proofs.graph_index.GraphIndex.insert_vertex.Goals as goal

pub insert-requires : goal.insert-requires
insert-requires c = no_vertex c.self.inside.vertices c.self.inside.edges c.args.self.now c.self.view_is c.args.vertex c.requires

pub invariant_of-self-2 : goal.invariant_of-self-2
invariant_of-self-2 c =
    let vs = c.self.inside.vertices in
    let es = c.self.inside.edges in
    let ws = c.insert.new.self in
    let new : VertexNode = record { node = c.args.node; ends = c.new-ends.result } in
    let n = nodes_in vs es in
    let none = no_edge_at n (stands_behind vs) c.self.invariant c.args.vertex
    (ap (λ (m : Nodes). finite.contains_key m.vertices c.args.vertex) c.self.view_is ∙ ap is_some c.requires) in
    subst (λ (m : Nodes). IsIndex m (stands_behind ws))
    (sym (nodes_same (nodes_in ws es) (with_vertex n c.args.vertex c.args.node)
    (vertex_inserted vs es ws c.args.vertex new c.in_ok-insert.ensures.ok) refl))
    (vertex_put n (stands_behind vs) c.self.invariant c.args.vertex c.args.node (contains edge_cmp c.new-ends.result) (stands_behind ws)
    (λ e. ap (list_any (is_at (edge_cmp e))) c.new-ends.ensures.empty ∙ none e)
    (behind_set vs ws c.args.vertex (Some new) c.in_ok-insert.ensures.ok))

pub returns-clause-ok : goal.returns-clause-ok
returns-clause-ok c =
    let vs = c.self.inside.vertices in
    let es = c.self.inside.edges in
    let ws = c.insert.new.self in
    nodes_same (nodes_in ws es) (with_vertex (nodes_in vs es) c.args.vertex c.args.node)
    (vertex_inserted vs es ws c.args.vertex (record { node = c.args.node; ends = c.new-ends.result }) c.in_ok-insert.ensures.ok) refl
    ∙ ap (λ (m : Nodes). with_vertex m c.args.vertex c.args.node) c.self.view_is
