use Rattle.std.proofs.Common.{ap}
use Rattle.index_kit.specs.Index.{Places}
use Rattle.index_kit.proofs.SortedEntries.{none_kept}
use Rattle.index_kit.proofs.sorted_index.SortedIndex.new.Goals as goal

pub returns : goal.returns
returns c = rw (c.new.ensures.items, c.new.ensures.capacity, c.new.ensures.len) (ap (λ
    (m : Places). record { places = m; spare = 0 }) none_kept)
