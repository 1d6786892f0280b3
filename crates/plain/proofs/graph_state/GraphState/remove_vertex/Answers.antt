use Rattle.std.proofs.Common.{◌∙◌, sym}
use Rattle.plain.proofs.Graphs.{kept_attribute, no_vertex, with_edges}
use Rattle.plain.proofs.graph_state.GraphState.remove_vertex.Goals as goal

pub returns-in_err-attribute-clause-before : goal.returns-in_err-attribute-clause-before
returns-in_err-attribute-clause-before c =
    c.from_residual.ensures ∙ sym c.in_err-attribute.was
    ∙ kept_attribute c.self.inside.vertices.entries c.self.inside.edges.entries c.args.self.now c.self.view_is c.args.vertex
    _ c.remove.ensures.value

pub returns-in_err-attribute-clause-after : goal.returns-in_err-attribute-clause-after
returns-in_err-attribute-clause-after c =
    no_vertex c.self.inside.vertices.entries c.self.inside.edges.entries c.args.self.now c.self.view_is c.args.vertex
    c.remove.new.self.entries _ c.remove.ensures.value c.remove.ensures.updates.0 c.in_err-attribute.was

pub returns-clause-before : goal.returns-clause-before
returns-clause-before c =
    kept_attribute c.self.inside.vertices.entries c.self.inside.edges.entries c.args.self.now c.self.view_is c.args.vertex
    _ (sym c.in_ok-attribute.was ∙ c.remove.ensures.value)

pub returns-clause-after : goal.returns-clause-after
returns-clause-after c =
    with_edges c.self.inside.vertices.entries c.self.inside.edges.entries c.args.self.now c.self.view_is c.args.vertex
    c.remove.new.self.entries _ c.remove.ensures.value c.remove.ensures.updates.0
    c.in_ok-attribute.attribute c.remove_at.new.edges.entries c.in_ok-attribute.was c.remove_at.ensures
