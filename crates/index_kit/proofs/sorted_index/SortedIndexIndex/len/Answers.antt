use Rattle.std.proofs.Common.{◌∙◌}
use Rattle.index_kit.proofs.SortedEntries.{kept, len_kept}
use Rattle.index_kit.proofs.sorted_index.SortedIndexIndex.len.Goals as goal

pub returns : goal.returns
returns c = c.len.ensures ∙ c.self.inside.entries.ok.0 ∙ len_kept _ _ (kept _ _ _ c.self.invariant c.self.view_is)
