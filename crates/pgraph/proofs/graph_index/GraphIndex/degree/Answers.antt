use Rattle.std.proofs.Common.{Some, ap, sym, ◌∙◌}
use Rattle.std.specs.Option.{option_copied}
use Rattle.pgraph.proofs.NodeMaps.{no_degree}
use Rattle.pgraph.proofs.EdgesInOrder.{seen_degree}
use Rattle.pgraph.proofs.graph_index.GraphIndex.degree.Goals as goal

pub returns-in_err-get : goal.returns-in_err-get
returns-in_err-get c =
    c.from_residual.ensures
    ∙ no_degree c.self.inside.vertices c.self.inside.edges c.args.self.now c.self.view_is c.args.vertex
    (sym (ap option_copied c.in_err-get.was) ∙ c.get.ensures)

pub returns : goal.returns
returns c =
    ap Some c.len.ensures.len
    ∙ seen_degree c.self.inside.vertices c.self.inside.edges c.self.invariant c.args.vertex c.in_ok-get.field-0.now
    (sym (ap option_copied c.in_ok-get.was) ∙ c.get.ensures) c.len.ensures.ordered c.args.self.now c.self.view_is
