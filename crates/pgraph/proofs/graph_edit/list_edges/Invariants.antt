use Rattle.std.proofs.Common.{◌≡◌, ◌++◌, map}
use Rattle.pgraph.specs.GraphIndex.{nodes_at}
use Rattle.pgraph.specs.GraphEdit.{edge_removal}
use Rattle.pgraph.proofs.graph_edit.list_edges.Given as goal

-- the edges so far are listed, and the others are still to come
abbrev pub invariant-loop-node : goal.invariant-loop-node
invariant-loop-node l =
    (goal.iterator-loop-node).can_next l.node-iterator × (goal.iterator-loop-node).is_finite l.node-iterator
    × (l.changes.items ≡ l.initial.changes.items ++ map edge_removal l.yielded)
    × (nodes_at l.index l.vertex ≡ l.yielded ++ l.node-iterator)
