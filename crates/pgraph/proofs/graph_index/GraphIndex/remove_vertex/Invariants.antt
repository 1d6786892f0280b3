use Rattle.std.specs.FinMap as finite
use Rattle.pgraph.specs.GraphIndex.{KeepsOthers}
use Rattle.pgraph.proofs.graph_index.GraphIndex.remove_vertex.Given as goal

-- edges from or to the vertex go, and nothing else
abbrev pub invariant-loop-ends : goal.invariant-loop-ends
invariant-loop-ends l = KeepsOthers l.vertex l.initial.self l.self

abbrev pub decreases-loop-ends : goal.decreases-loop-ends
decreases-loop-ends l = finite.len l.self.edges
