use Rattle.std.proofs.Common.{sym, ap, ◌∙◌}
use Rattle.std.specs.Cmp.{nat_cmp_total}
use Rattle.std.specs.FinMap.{nat_cmp-IsAntisymmetric}
use Rattle.mont_base.specs.declared.record.ObjectFault.TheVariants.{Vertex}
use Rattle.mont_base.specs.Structure.{vertex_at, vertex_fault}
use Rattle.plain.proofs.Named.{adds}
use Rattle.plain.proofs.graph_parts.add_vertex.Goals as goal

pub returns : goal.returns
returns c =
    let names = sym c.vertex_in.ensures.exact ∙ c.in-Some.is in
    adds nat_cmp_total vertex_at nat_cmp-IsAntisymmetric
    (λ lower. vertex_fault lower (vertex_at c.args.object.now)) Vertex _ _ _ _ _ _ c.is_some-stood.result c.then_some.result
    names c.in_ok-insert.ensures.old c.is_some-stood.ensures c.then_some.ensures c.in_ok-insert.ensures.updates.0
    (λ lower. ap (vertex_fault lower) names)
