use Rattle.std.proofs.Common.{Some, None, ap, sym, ◌∙◌}
use Rattle.std.specs.Option.{option_copied}
use Rattle.pgraph.proofs.NodeMaps.{seen_vertex}
use Rattle.pgraph.proofs.graph_index.GraphIndex.vertex.Goals as goal

pub returns-in_err-get : goal.returns-in_err-get
returns-in_err-get c =
    c.from_residual.ensures
    ∙ seen_vertex c.self.inside.vertices c.self.inside.edges c.args.self.now c.self.view_is c.args.vertex None
    (sym (ap option_copied c.in_err-get.was) ∙ c.get.ensures)

pub returns : goal.returns
returns c = seen_vertex c.self.inside.vertices c.self.inside.edges c.args.self.now c.self.view_is c.args.vertex
    (Some c.in_ok-get.field-0.now) (sym (ap option_copied c.in_ok-get.was) ∙ c.get.ensures)
