use Rattle.std.proofs.Common.{ap}
use Rattle.std.specs.Cmp.{nat_cmp_total}
use Rattle.plain.proofs.Maps.{kept_contains}
use Rattle.plain.proofs.graph_state.GraphState.has_vertex.Goals as goal

pub returns : goal.returns
returns c =
    kept_contains nat_cmp_total c.self.inside.vertices.entries c.args.self.now.vertices (ap (λ g. g.vertices) c.self.view_is)
    c.args.vertex c.contains_key.result c.contains_key.ensures
