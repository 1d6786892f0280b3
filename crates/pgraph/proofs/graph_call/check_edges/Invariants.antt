use Rattle.std.proofs.Common.{◌≡◌}
use Rattle.pgraph.specs.GraphIndex.{nodes_at}
use Rattle.pgraph.proofs.EdgesChecked.{AreChecked}
use Rattle.pgraph.proofs.graph_call.check_edges.Given as goal

-- nothing changed, there is a number for each edge so far, and the others are still to come
abbrev pub invariant-loop-node : goal.invariant-loop-node
invariant-loop-node g l =
    (goal.iterator-loop-node g).can_next l.node-iterator × (goal.iterator-loop-node g).is_finite l.node-iterator
    × AreChecked l.initial.region l.region l.initial.pass.ticket l.pass.ticket l.yielded l.node-iterator (nodes_at l.index l.vertex)
    × (l.pass.gate ≡ l.initial.pass.gate) × (l.pass.receipts ≡ l.initial.pass.receipts)
