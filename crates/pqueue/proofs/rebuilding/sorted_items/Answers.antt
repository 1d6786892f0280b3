use Rattle.std.proofs.Common.{rules, List, subst}
use Rattle.std.specs.List.Sorted.{IsPermutation}
use Rattle.std.proofs.lemmas.List.Sorted.{IsNonDecreasingBy-from_sort_by_key}
use Rattle.pqueue.specs.declared.queued.Queued.{Queued}
use Rattle.pqueue.specs.Queued.{serial_in}
use Rattle.pqueue.proofs.rebuilding.sorted_items.Goals as goal

pub returns-clause-same : goal.returns-clause-same
returns-clause-same c = subst (λ (l : List Queued). IsPermutation l c.sort_unstable_by_key.new.self.items) c.in_ok-items.ensures
    c.sort_unstable_by_key.ensures.permutation

pub returns-clause-rising : goal.returns-clause-rising
returns-clause-rising c = IsNonDecreasingBy-from_sort_by_key serial_in _ c.sort_unstable_by_key.ensures.sorted (λ a r q k. search rules)
