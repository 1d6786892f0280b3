use Rattle.std.proofs.Common.{rules}
use Rattle.std.proofs.lemmas.List.Sorted.{answers_always}
use Rattle.index_kit.proofs.SortedEntries.{searched}
use Rattle.index_kit.proofs.sorted_index.search.Goals as goal

pub returns : goal.returns
returns c =
    let facts = c.binary_search_by_key.ensures in
    searched _ c.requires c.args.key _ facts.bound
    (facts.position (λ e. e.0) (answers_always _ _ _ (λ f a r g called. search rules)))
