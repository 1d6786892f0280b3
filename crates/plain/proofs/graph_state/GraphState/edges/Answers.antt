use Rattle.std.proofs.Common.{ap}
use Rattle.plain.proofs.Maps.{edges_total, kept_entries}
use Rattle.plain.proofs.graph_state.GraphState.edges.Goals as goal

pub returns : goal.returns
returns c =
    kept_entries edges_total c.self.inside.edges.entries c.args.self.now.edges (ap (λ g. g.edges) c.self.view_is) c.iter.result
    c.iter.ensures.ordered c.iter.ensures.rest
