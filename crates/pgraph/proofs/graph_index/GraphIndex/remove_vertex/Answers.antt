use Rattle.std.proofs.Common.{None, length, ap, sym, refl, subst, ◌∙◌, arith}
use Rattle.std.specs.FinMap as finite
use Rattle.mont_laws.proofs.Keys.{edges_total, edges_exact}
use Rattle.pgraph.specs.GraphIndex.{Nodes, IsIndex, nodes_in, nodes_at, stands_behind, without_vertex}
use Rattle.pgraph.proofs.Passing.{len_removed}
use Rattle.pgraph.proofs.NodeMaps.{vertex_removed, behind_set, nodes_same}
use Rattle.pgraph.proofs.IndexKept.{named_there, none_named, others_kept, edges_elsewhere, vertex_gone}
use Rattle.pgraph.proofs.graph_index.GraphIndex.remove_vertex.Goals as goal

pub remove_edge-requires : goal.remove_edge-requires
remove_edge-requires c = (named_there c.loop-ends.self c.args.vertex c.in-Some.ends (sym c.first_edge_at.ensures ∙ c.in-Some.is)).0

pub loop-ends-smaller : goal.loop-ends-smaller
loop-ends-smaller c =
    let there = (named_there c.loop-ends.self c.args.vertex c.in-Some.ends (sym c.first_edge_at.ensures ∙ c.in-Some.is)).0 in
    let less = len_removed edges_total edges_exact c.loop-ends.self.edges c.in-Some.ends there in
    let now = ap (λ (n : Nodes). finite.len n.edges) c.remove_edge.ensures in
    omega arith

pub loop-ends-preserved : goal.loop-ends-preserved
loop-ends-preserved c =
    rw c.remove_edge.ensures
    (others_kept c.args.vertex c.args.self.now c.loop-ends.self c.in-Some.ends
    (named_there c.loop-ends.self c.args.vertex c.in-Some.ends (sym c.first_edge_at.ensures ∙ c.in-Some.is)).1 c.loop-ends.invariant)

pub invariant_of-self : goal.invariant_of-self
invariant_of-self c =
    let vs = c.self.inside.vertices in
    let es = c.self.inside.edges in
    let ws = c.remove.new.self in
    let v = c.args.vertex in
    let n = nodes_in vs es in
    let none = none_named c.loop-ends.self v (sym c.first_edge_at.ensures ∙ c.in_default.is) in
    let none_inside = ap (λ (m : Nodes). length (nodes_at m v)) c.self.view_is ∙ none in
    let gone : Nodes = record { vertices = finite.remove n.vertices v; edges = n.edges } in
    subst (λ (m : Nodes). IsIndex m (stands_behind ws))
    (sym (nodes_same (nodes_in ws es) gone (vertex_removed vs es ws v c.remove.ensures.taken) refl))
    (vertex_gone n (stands_behind vs) c.self.invariant v (stands_behind ws) none_inside (behind_set vs ws v None c.remove.ensures.taken))

pub returns : goal.returns
returns c =
    let vs = c.self.inside.vertices in
    let es = c.self.inside.edges in
    let ws = c.remove.new.self in
    let v = c.args.vertex in
    let old = c.args.self.now in
    let now = c.loop-ends.self in
    let none = none_named now v (sym c.first_edge_at.ensures ∙ c.in_default.is) in
    nodes_same (nodes_in ws es) (without_vertex old v)
    (vertex_removed vs es ws v c.remove.ensures.taken ∙ ap (λ (m : Nodes). finite.remove m.vertices v) c.self.view_is
    ∙ ap (λ m. finite.remove m v) c.loop-ends.invariant.vertices)
    (ap (λ (m : Nodes). m.edges) c.self.view_is ∙ edges_elsewhere v old now c.loop-ends.invariant none)
