use Rattle.std.proofs.Common.{ap}
use Rattle.std.specs.Cmp.{nat_cmp_total}
use Rattle.std.specs.FinMap.{nat_cmp-IsAntisymmetric}
use Rattle.plain.proofs.Maps.{kept_get, kept_insert}
use Rattle.plain.proofs.graph_state.GraphState.insert_vertex.Goals as goal

pub returns-clause-before : goal.returns-clause-before
returns-clause-before c =
    kept_get nat_cmp_total c.self.inside.vertices.entries c.args.self.now.vertices (ap (λ g. g.vertices) c.self.view_is) c.args.vertex _
    c.in_ok-insert.ensures.old

pub returns-clause-ok : goal.returns-clause-ok
returns-clause-ok c =
    let set =
    kept_insert nat_cmp_total c.self.inside.vertices.entries c.args.self.now.vertices (ap (λ g. g.vertices) c.self.view_is)
    nat_cmp-IsAntisymmetric
    c.insert.new.self.entries c.args.vertex c.args.attribute c.in_ok-insert.ensures.updates.0 in
    λ i. record { vertices = set i; edges = (c.self.view_is i).edges }
