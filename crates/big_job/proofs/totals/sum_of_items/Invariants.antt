use Rattle.std.proofs.Common.{◌≡◌, ◌+◌, ◌%◌, ◌^◌}
use Rattle.std.specs.Prelude.{sum}
use Rattle.std.specs.VecDeque.Iter.{deque_iter_rest}
use Rattle.big_job.proofs.totals.sum_of_items.Given as goal

-- what is summed and what is still to come are the whole
abbrev pub invariant-loop-item : goal.invariant-loop-item
invariant-loop-item l = (l.sum + sum (deque_iter_rest l.item-iterator)) % 2 ^ 64 ≡ sum (deque_iter_rest l.fn.items) % 2 ^ 64
