use Rattle.std.proofs.Common.{ap}
use Rattle.std.proofs.lemmas.Bool.Decides.{Decides-eqb}
use Rattle.std.proofs.lemmas.Map.Lookups.{btree_map_eq-Decides}
use Rattle.plain.proofs.Maps.{edges_total, kept_same, kept_apart, same_ends}
use Rattle.plain.proofs.graph_state.GraphState.has_same_edges.Goals as goal

pub returns-then-len : goal.returns-then-len
returns-then-len c =
    kept_same edges_total c.self.inside.edges.entries c.args.self.now.edges (ap (λ g. g.edges) c.self.view_is)
    c.other.inside.edges.entries c.args.other.now.edges (ap (λ g. g.edges) c.other.view_is)
    c.len.ensures.ordered c.len-2.ensures.ordered _
    (btree_map_eq-Decides same_ends Decides-eqb c.self.inside.edges c.other.inside.edges c.eq.result c.eq.ensures)

pub returns-else-len : goal.returns-else-len
returns-else-len c =
    kept_apart edges_total c.self.inside.edges.entries c.args.self.now.edges (ap (λ g. g.edges) c.self.view_is)
    c.other.inside.edges.entries c.args.other.now.edges (ap (λ g. g.edges) c.other.view_is)
    c.len.ensures.ordered c.len-2.ensures.ordered c.len.result c.len-2.result c.len.ensures.len c.len-2.ensures.len c.if-len.false
