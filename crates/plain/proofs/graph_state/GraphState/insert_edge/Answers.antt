use Rattle.std.proofs.Common.{ap}
use Rattle.plain.proofs.Maps.{edges_total, edges_differ, kept_get, kept_insert}
use Rattle.plain.proofs.graph_state.GraphState.insert_edge.Goals as goal

pub returns-clause-before : goal.returns-clause-before
returns-clause-before c =
    kept_get edges_total c.self.inside.edges.entries c.args.self.now.edges (ap (λ g. g.edges) c.self.view_is) c.args.ends _
    c.in_ok-insert.ensures.old

pub returns-clause-ok : goal.returns-clause-ok
returns-clause-ok c =
    let set =
    kept_insert edges_total c.self.inside.edges.entries c.args.self.now.edges (ap (λ g. g.edges) c.self.view_is) edges_differ
    c.insert.new.self.entries c.args.ends c.args.attribute c.in_ok-insert.ensures.updates.0 in
    λ i. record { vertices = (c.self.view_is i).vertices; edges = set i }
