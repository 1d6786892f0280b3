use Rattle.std.proofs.Common.{sym, ap, ◌∙◌}
use Rattle.pgraph.specs.declared.node.Node.{Node}
use Rattle.pgraph.specs.GraphIndex.{with_vertex}
use Rattle.pgraph.proofs.GraphScans.{vertex_absent, next_vertex, past_vertex}
use Rattle.pgraph.proofs.graph_beginning.vertices_of.Goals.{in-Some+in_ok-insert_vertex, in_default}
use Rattle.pgraph.proofs.graph_beginning.vertices_of.Goals as goal

pub insert_vertex-requires : goal.insert_vertex-requires
insert_vertex-requires c = vertex_absent c.args.objects.now c.requires c.loop-object.object-index _ c.loop-object-test.true
    (c.in-Some.vertex, c.in-Some.attribute) (sym c.vertex_in.ensures.exact ∙ c.in-Some.is) c.loop-object.index c.loop-object.invariant

pub loop-object-preserved : goal.loop-object-preserved
loop-object-preserved c = elim c.match-vertex_in.branch [
  | in-Some+in_ok-insert_vertex w ↦ w.index-is ∙ w.in_ok-insert_vertex.ensures.ok
      ∙ ap (λ (n : Node). with_vertex c.loop-object.index w.in-Some.vertex n) w.node_at.ensures
      ∙ next_vertex c.args.objects.now c.requires c.loop-object.object-index _ c.loop-object-test.true
      (w.in-Some.vertex, w.in-Some.attribute) (sym c.vertex_in.ensures.exact ∙ w.in-Some.is) c.loop-object.index c.loop-object.invariant
  | in_default w ↦ w.index-is
      ∙ past_vertex c.args.objects.now c.requires c.loop-object.object-index _ c.loop-object-test.true
      (sym c.vertex_in.ensures.exact ∙ w.in_default.is) c.loop-object.index c.loop-object.invariant
]
