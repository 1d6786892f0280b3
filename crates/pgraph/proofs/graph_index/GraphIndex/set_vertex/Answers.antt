use Rattle.std.proofs.Common.{Some, ◌≡◌, true, false, ap, sym, refl, subst, ◌∙◌}
use Rattle.std.specs.Prelude.{is_some}
use Rattle.std.specs.Ordering.{nat_cmp}
use Rattle.std.specs.BTreeSet.{contains}
use Rattle.mont_base.specs.State.{edge_cmp}
use Rattle.pgraph.specs.declared.node.VertexNode.{VertexNode}
use Rattle.pgraph.specs.GraphIndex.{Nodes, IsIndex, nodes_in, stands_behind, with_vertex}
use Rattle.pgraph.specs.Shelf.{SetsValue}
use Rattle.pgraph.proofs.NodeMaps.{some_vertex, vertex_inserted, behind_set, nodes_same}
use Rattle.pgraph.proofs.IndexKept.{vertex_put}
use Rattle.pgraph.proofs.EdgesInOrder.{listed_here}
use Rattle.pgraph.proofs.graph_index.GraphIndex.set_vertex.Goals as goal

pub invariant_of-self-2 : goal.invariant_of-self-2
invariant_of-self-2 c =
    let vs = c.self.inside.vertices in
    let es = c.self.inside.edges in
    let there = c.in-Some.there.now in
    let new : VertexNode = record { node = c.args.node; ends = there.ends } in
    let ws = c.get_mut.follows.lender new in
    let sets : SetsValue nat_cmp vs ws c.args.vertex (Some new) = rw c.in-Some.is at c.get_mut.follows.holds new in
    let n = nodes_in vs es in
    subst (λ (m : Nodes). IsIndex m (stands_behind ws))
    (sym (nodes_same (nodes_in ws es) (with_vertex n c.args.vertex c.args.node)
    (vertex_inserted vs es ws c.args.vertex new sets) refl))
    (vertex_put n (stands_behind vs) c.self.invariant c.args.vertex c.args.node (contains edge_cmp there.ends) (stands_behind ws)
    (listed_here vs es c.self.invariant c.args.vertex there c.in-Some.ensures.value)
    (behind_set vs ws c.args.vertex (Some new) sets))

pub returns : goal.returns
returns c =
    let vs = c.self.inside.vertices in
    let es = c.self.inside.edges in
    let new : VertexNode = record { node = c.args.node; ends = c.in-Some.there.now.ends } in
    let ws = c.get_mut.follows.lender new in
    let sets : SetsValue nat_cmp vs ws c.args.vertex (Some new) = rw c.in-Some.is at c.get_mut.follows.holds new in
    nodes_same (nodes_in ws es) (with_vertex (nodes_in vs es) c.args.vertex c.args.node)
    (vertex_inserted vs es ws c.args.vertex new sets) refl
    ∙ ap (λ (m : Nodes). with_vertex m c.args.vertex c.args.node) c.self.view_is

pub returns-in_default : goal.returns-in_default
returns-in_default c =
    let some = some_vertex c.self.inside.vertices c.self.inside.edges c.args.self.now c.self.view_is c.args.vertex c.requires in
    let same : false ≡ true = ap is_some c.in_default.ensures.value ∙ some in
    absurd (cc)
