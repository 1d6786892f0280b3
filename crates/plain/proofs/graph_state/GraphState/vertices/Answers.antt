use Rattle.std.proofs.Common.{ap}
use Rattle.std.specs.Cmp.{nat_cmp_total}
use Rattle.plain.proofs.Maps.{kept_entries}
use Rattle.plain.proofs.graph_state.GraphState.vertices.Goals as goal

pub returns : goal.returns
returns c =
    kept_entries nat_cmp_total c.self.inside.vertices.entries c.args.self.now.vertices (ap (λ g. g.vertices) c.self.view_is) c.iter.result
    c.iter.ensures.ordered c.iter.ensures.rest
