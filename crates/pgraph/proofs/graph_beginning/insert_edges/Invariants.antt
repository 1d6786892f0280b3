use Rattle.std.proofs.Common.{◌≡◌, take}
use Rattle.pgraph.specs.GraphBeginning.{nodes_of}
use Rattle.pgraph.proofs.graph_beginning.insert_edges.Given as goal

-- the edges so far are there
abbrev pub invariant-loop-object : goal.invariant-loop-object
invariant-loop-object l = l.index ≡ nodes_of l.objects (take l.object-index l.objects)
