use Rattle.std.proofs.Common.{◌≡◌, [], take}
use Rattle.pgraph.specs.GraphBeginning.{nodes_of}
use Rattle.pgraph.proofs.graph_beginning.vertices_of.Given as goal

-- the vertices so far are there
abbrev pub invariant-loop-object : goal.invariant-loop-object
invariant-loop-object l = l.index ≡ nodes_of (take l.object-index l.objects) []
