use Rattle.std.proofs.Common.{[], refl}
use Rattle.pgraph.specs.GraphIndex.{stands_behind}
use Rattle.pgraph.proofs.IndexKept.{no_index}
use Rattle.pgraph.proofs.graph_index.GraphIndex.new.Goals as goal

pub invariant_of-result : goal.invariant_of-result
invariant_of-result c = rw (c.new.ensures, c.new-2.ensures) (no_index (stands_behind []) (λ v e. refl))
