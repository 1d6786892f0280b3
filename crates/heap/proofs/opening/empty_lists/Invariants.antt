use Rattle.std.proofs.Common.{◌≡◌, replicate, []}
use Rattle.heap_rule.specs.Views.{listing}
use Rattle.heap.proofs.opening.empty_lists.Given as goal

abbrev pub invariant-loop-list : goal.invariant-loop-list
invariant-loop-list l = l.lists.items ≡ replicate l._list (listing l.room [])
