use Rattle.std.proofs.Common.{ap, ◌∙◌}
use Rattle.plain.proofs.Maps.{edges_total, kept_get}
use Rattle.plain.proofs.graph_state.GraphState.edge.Goals as goal

pub returns : goal.returns
returns c =
    kept_get edges_total c.self.inside.edges.entries c.args.self.now.edges (ap (λ g. g.edges) c.self.view_is) c.args.ends c.copied.result
    (c.copied.ensures ∙ c.get.ensures.value)
