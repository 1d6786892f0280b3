use Rattle.index_kit.proofs.Indexed.{indexed_none}
use Rattle.index_kit.proofs.probe_index.ProbeIndex.new.Goals as goal

pub invariant_of-result : goal.invariant_of-result
invariant_of-result c = rw (c.new.ensures.items, c.new-2.ensures) indexed_none
