use Rattle.std.proofs.Common.{◌≡◌, ◌+◌, ◌%◌, ◌^◌}
use Rattle.std.specs.List.{sum_by}
use Rattle.big_job.specs.Totals.{value_of_pair}
use Rattle.bank_job.proofs.bank_total.total_of_pairs.Given as goal

-- what is summed and what is still to come are the whole
abbrev pub invariant-loop-key : goal.invariant-loop-key
invariant-loop-key l = (l.total + sum_by value_of_pair l._key-iterator) % 2 ^ 64 ≡ sum_by value_of_pair l.fn.pairs % 2 ^ 64
