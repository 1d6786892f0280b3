use Rattle.std.proofs.Common.{sym, ◌∙◌}
use Rattle.mont_base.specs.declared.record.ObjectFault.TheVariants.{Edge}
use Rattle.mont_base.specs.Structure.{edge_at, edge_fault}
use Rattle.plain.proofs.Maps.{edges_total, edges_differ}
use Rattle.plain.proofs.Named.{adds, edge_told}
use Rattle.plain.proofs.graph_parts.add_edge.Goals as goal

pub returns : goal.returns
returns c =
    let names = sym c.edge_in.ensures.exact ∙ c.in-Some.is in
    adds edges_total edge_at edges_differ
    (λ lower. edge_fault lower (edge_at c.args.object.now)) Edge _ _ _ _ _ _ c.is_some-stood.result c.then_some.result
    names c.in_ok-insert.ensures.old c.is_some-stood.ensures c.then_some.ensures c.in_ok-insert.ensures.updates.0
    (λ lower. edge_told lower _ _ _ names c.if-ends.false)
