use Rattle.std.proofs.Common.{ap}
use Rattle.plain.proofs.Maps.{edges_total, kept_len}
use Rattle.plain.proofs.graph_state.GraphState.edges_len.Goals as goal

pub returns-clause-value : goal.returns-clause-value
returns-clause-value c =
    kept_len edges_total c.self.inside.edges.entries c.args.self.now.edges (ap (λ g. g.edges) c.self.view_is) c.len.result
    c.len.ensures.ordered c.len.ensures.len
