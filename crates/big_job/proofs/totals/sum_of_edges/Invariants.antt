use Rattle.std.proofs.Common.{◌≡◌, ◌+◌, ◌%◌, ◌^◌}
use Rattle.std.specs.List.{sum_by}
use Rattle.big_job.specs.Totals.{value_of_edge}
use Rattle.big_job.proofs.totals.sum_of_edges.Given as goal

-- what is summed and what is still to come are the whole
abbrev pub invariant-loop-ends : goal.invariant-loop-ends
invariant-loop-ends l = (l.sum + sum_by value_of_edge l._ends-iterator) % 2 ^ 64 ≡ sum_by value_of_edge l.fn.edges % 2 ^ 64
