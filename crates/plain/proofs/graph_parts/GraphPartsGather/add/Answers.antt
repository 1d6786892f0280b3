use Rattle.std.proofs.Common.{sym, ◌∙◌}
use Rattle.std.specs.Cmp.{nat_cmp_total}
use Rattle.mont_base.specs.Structure.{vertex_at, edge_at}
use Rattle.plain.proofs.Maps.{edges_total}
use Rattle.plain.proofs.Named.{skipped, no_edge, no_vertex}
use Rattle.plain.proofs.graph_parts.GraphPartsGather.add.Goals as goal

pub returns-then-is_vertex_body-clause-added : goal.returns-then-is_vertex_body-clause-added
returns-then-is_vertex_body-clause-added c = λ e lower h. record {
  vertices = c.add_vertex.ensures.added e lower h.vertices;
  edges = skipped edges_total edge_at _ lower c.args.object.now h.edges (no_edge c.args.object.now.body (sym c.is_vertex_body.ensures
      ∙ c.if-is_vertex_body.true));
}

pub returns-then-is_edge_body-clause-added : goal.returns-then-is_edge_body-clause-added
returns-then-is_edge_body-clause-added c = λ e lower h. record {
  vertices =
      skipped nat_cmp_total vertex_at _ lower c.args.object.now h.vertices (no_vertex c.args.object.now.body (sym c.is_vertex_body.ensures
      ∙ c.if-is_vertex_body.false));
  edges = c.add_edge.ensures.added e lower h.edges;
}
