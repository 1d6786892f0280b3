use Rattle.std.proofs.Common.{Some, ◌≡◌, true, false, ap, sym, refl, subst, ◌∙◌}
use Rattle.std.specs.Prelude.{is_some}
use Rattle.std.specs.FinMap as finite
use Rattle.mont_base.specs.State.{edge_cmp}
use Rattle.pgraph.specs.GraphIndex.{Nodes, IsIndex, nodes_in, stands_behind, with_edge}
use Rattle.pgraph.specs.Shelf.{SetsValue}
use Rattle.pgraph.proofs.NodeMaps.{some_edge, edge_inserted, nodes_same}
use Rattle.pgraph.proofs.IndexKept.{edge_put}
use Rattle.pgraph.proofs.graph_index.GraphIndex.set_edge.Goals as goal

pub invariant_of-self-2 : goal.invariant_of-self-2
invariant_of-self-2 c =
    let vs = c.self.inside.vertices in
    let es = c.self.inside.edges in
    let fs = c.get_mut.follows.lender c.args.node in
    let sets : SetsValue edge_cmp es fs c.args.ends (Some c.args.node) = rw c.in-Some.is at c.get_mut.follows.holds c.args.node in
    let n = nodes_in vs es in
    subst (λ (m : Nodes). IsIndex m (stands_behind vs))
    (sym (nodes_same (nodes_in vs fs) (with_edge n c.args.ends c.args.node) refl (edge_inserted vs es fs c.args.ends c.args.node sets)))
    (edge_put n (stands_behind vs) c.self.invariant c.args.ends c.args.node
    (ap (λ (m : Nodes). finite.contains_key m.edges c.args.ends) c.self.view_is ∙ c.requires))

pub returns : goal.returns
returns c =
    let vs = c.self.inside.vertices in
    let es = c.self.inside.edges in
    let fs = c.get_mut.follows.lender c.args.node in
    let sets : SetsValue edge_cmp es fs c.args.ends (Some c.args.node) = rw c.in-Some.is at c.get_mut.follows.holds c.args.node in
    nodes_same (nodes_in vs fs) (with_edge (nodes_in vs es) c.args.ends c.args.node) refl
    (edge_inserted vs es fs c.args.ends c.args.node sets)
    ∙ ap (λ (m : Nodes). with_edge m c.args.ends c.args.node) c.self.view_is

pub returns-in_default : goal.returns-in_default
returns-in_default c =
    let some = some_edge c.self.inside.vertices c.self.inside.edges c.args.self.now c.self.view_is c.args.ends c.requires in
    let same : false ≡ true = ap is_some c.in_default.ensures.value ∙ some in
    absurd (cc)
