use Rattle.std.proofs.Common.{ap}
use Rattle.std.specs.Cmp.{nat_cmp_total}
use Rattle.plain.proofs.Maps.{kept_len}
use Rattle.plain.proofs.graph_state.GraphState.vertices_len.Goals as goal

pub returns-clause-value : goal.returns-clause-value
returns-clause-value c =
    kept_len nat_cmp_total c.self.inside.vertices.entries c.args.self.now.vertices (ap (λ g. g.vertices) c.self.view_is) c.len.result
    c.len.ensures.ordered c.len.ensures.len
