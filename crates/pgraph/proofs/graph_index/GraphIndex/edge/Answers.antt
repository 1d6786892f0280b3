use Rattle.std.proofs.Common.{◌∙◌}
use Rattle.pgraph.proofs.NodeMaps.{seen_edge}
use Rattle.pgraph.proofs.graph_index.GraphIndex.edge.Goals as goal

pub returns : goal.returns
returns c = seen_edge c.self.inside.vertices c.self.inside.edges c.args.self.now c.self.view_is c.args.ends c.copied.result
    (c.copied.ensures ∙ c.get.ensures)
