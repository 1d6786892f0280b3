use Rattle.std.proofs.Common.{ap}
use Rattle.plain.proofs.Maps.{edges_total, edges_differ, kept_get, kept_remove}
use Rattle.plain.proofs.graph_state.GraphState.remove_edge.Goals as goal

pub returns-clause-before : goal.returns-clause-before
returns-clause-before c =
    kept_get edges_total c.self.inside.edges.entries c.args.self.now.edges (ap (λ g. g.edges) c.self.view_is) c.args.ends _
    c.remove.ensures.value

pub returns-clause-after : goal.returns-clause-after
returns-clause-after c =
    let set =
    kept_remove edges_total c.self.inside.edges.entries c.args.self.now.edges (ap (λ g. g.edges) c.self.view_is) edges_differ
    c.remove.new.self.entries c.args.ends c.remove.ensures.updates.0 in
    λ i. record { vertices = (c.self.view_is i).vertices; edges = set i }
