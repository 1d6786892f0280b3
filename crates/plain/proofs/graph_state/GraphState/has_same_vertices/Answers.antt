use Rattle.std.proofs.Common.{ap}
use Rattle.std.specs.Cmp.{nat_cmp_total}
use Rattle.std.proofs.lemmas.Bool.Decides.{Decides-eqb}
use Rattle.std.proofs.lemmas.Map.Lookups.{btree_map_eq-Decides}
use Rattle.plain.proofs.Maps.{kept_same, kept_apart}
use Rattle.plain.proofs.graph_state.GraphState.has_same_vertices.Goals as goal

pub returns-then-len : goal.returns-then-len
returns-then-len c =
    kept_same nat_cmp_total c.self.inside.vertices.entries c.args.self.now.vertices (ap (λ g. g.vertices) c.self.view_is)
    c.other.inside.vertices.entries c.args.other.now.vertices (ap (λ g. g.vertices) c.other.view_is)
    c.len.ensures.ordered c.len-2.ensures.ordered _
    (btree_map_eq-Decides Decides-eqb Decides-eqb c.self.inside.vertices c.other.inside.vertices c.eq.result c.eq.ensures)

pub returns-else-len : goal.returns-else-len
returns-else-len c =
    kept_apart nat_cmp_total c.self.inside.vertices.entries c.args.self.now.vertices (ap (λ g. g.vertices) c.self.view_is)
    c.other.inside.vertices.entries c.args.other.now.vertices (ap (λ g. g.vertices) c.other.view_is)
    c.len.ensures.ordered c.len-2.ensures.ordered c.len.result c.len-2.result c.len.ensures.len c.len-2.ensures.len c.if-len.false
