use Rattle.std.proofs.Common.{sym, ap, ◌∙◌}
use Rattle.pgraph.specs.declared.node.Node.{Node}
use Rattle.pgraph.specs.GraphIndex.{with_edge}
use Rattle.pgraph.proofs.GraphScans.{edge_absent, edge_joins, next_edge, past_edge}
use Rattle.pgraph.proofs.graph_beginning.insert_edges.Goals.{in-Some+in_ok-insert_edge, in_default}
use Rattle.pgraph.proofs.graph_beginning.insert_edges.Goals as goal

pub insert_edge-requires-clause-absent : goal.insert_edge-requires-clause-absent
insert_edge-requires-clause-absent c = edge_absent c.args.objects.now c.requires.graph c.loop-object.object-index _ c.loop-object-test.true
    ((c.in-Some.from, c.in-Some.to), c.in-Some.attribute) (sym c.edge_in.ensures.exact ∙ c.in-Some.is) c.loop-object.index
    c.loop-object.invariant

pub insert_edge-requires-clause-joins : goal.insert_edge-requires-clause-joins
insert_edge-requires-clause-joins c = edge_joins c.args.objects.now c.requires.graph c.loop-object.object-index _ c.loop-object-test.true
    ((c.in-Some.from, c.in-Some.to), c.in-Some.attribute) (sym c.edge_in.ensures.exact ∙ c.in-Some.is) c.loop-object.index
    c.loop-object.invariant

pub loop-object-preserved : goal.loop-object-preserved
loop-object-preserved c = elim c.match-edge_in.branch [
  | in-Some+in_ok-insert_edge w ↦ w.index-is ∙ w.in_ok-insert_edge.ensures.ok
      ∙ ap (λ (n : Node). with_edge c.loop-object.index (w.in-Some.from, w.in-Some.to) n) w.node_at.ensures
      ∙ next_edge c.args.objects.now c.requires.graph c.loop-object.object-index _ c.loop-object-test.true
      ((w.in-Some.from, w.in-Some.to), w.in-Some.attribute) (sym c.edge_in.ensures.exact ∙ w.in-Some.is) c.loop-object.index
      c.loop-object.invariant
  | in_default w ↦ w.index-is
      ∙ past_edge c.args.objects.now c.requires.graph c.loop-object.object-index _ c.loop-object-test.true
      (sym c.edge_in.ensures.exact ∙ w.in_default.is) c.loop-object.index c.loop-object.invariant
]
