use Rattle.std.proofs.Common.{sym, ◌∙◌}
use Rattle.std.specs.Cmp.{nat_cmp_total}
use Rattle.std.proofs.lemmas.Result.{on_ok_weaker}
use Rattle.mont_base.specs.Structure.{vertex_at}
use Rattle.plain.proofs.Named.{no_vertex}
use Rattle.image_info.proofs.Names.{unnamed}
use Rattle.image_info.proofs.graph_faults.PartJudgeJudge.judge.Goals as goal

pub returns-then-is_edge_body-clause-known : goal.returns-then-is_edge_body-clause-known
returns-then-is_edge_body-clause-known c = on_ok_weaker c.judge_edge.result
    (λ known lower h. record {
      vertices = unnamed nat_cmp_total vertex_at _ lower c.args.object.now h.vertices
          (no_vertex c.args.object.now.body (sym c.is_vertex_body.ensures ∙ c.if-is_vertex_body.false));
      edges = known lower h.edges;
    })
    c.judge_edge.ensures.known
