use Rattle.std.proofs.Common.{ap, ◌∙◌}
use Rattle.std.specs.Cmp.{nat_cmp_total}
use Rattle.plain.proofs.Maps.{kept_get}
use Rattle.plain.proofs.graph_state.GraphState.vertex.Goals as goal

pub returns : goal.returns
returns c =
    kept_get nat_cmp_total c.self.inside.vertices.entries c.args.self.now.vertices (ap (λ g. g.vertices) c.self.view_is) c.args.vertex
    c.copied.result (c.copied.ensures ∙ c.get.ensures.value)
