use Rattle.std.proofs.Common.{sym, ◌∙◌}
use Rattle.mont_base.specs.declared.record.ObjectFault.TheVariants.{Edge}
use Rattle.mont_base.specs.Structure.{edge_at, edge_fault}
use Rattle.plain.proofs.Maps.{edges_total}
use Rattle.plain.proofs.Named.{edge_told}
use Rattle.image_info.proofs.Names.{judges, loop_told, told_if}
use Rattle.image_info.proofs.graph_faults.judge_edge.Goals as goal

pub returns-then-ends : goal.returns-then-ends
returns-then-ends c =
    let names = sym c.edge_in.ensures.exact ∙ c.in-Some.is in
    judges edges_total edge_at (λ lower. edge_fault lower (edge_at c.args.object.now)) _ _ c.args.object.now _ _ _ _ _ names
    c.in_ok-insert.ensures.old c.in_ok-insert.ensures.updates.0
    (λ lower _. sym (loop_told lower _ _ _ names c.if-ends.true))

pub returns : goal.returns
returns c =
    let names = sym c.edge_in.ensures.exact ∙ c.in-Some.is in
    judges edges_total edge_at (λ lower. edge_fault lower (edge_at c.args.object.now)) _ _ c.args.object.now _ _ _ _ _ names
    c.in_ok-insert.ensures.old c.in_ok-insert.ensures.updates.0
    (λ lower known. told_if c.then_some.result _ _ _ Edge c.then_some.ensures c.is_some-stood.ensures known
    ∙ sym (edge_told lower _ _ _ names c.if-ends.false))
