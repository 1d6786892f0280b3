use Rattle.std.proofs.Common.{◌≡◌, ◌+◌, ◌%◌, ◌^◌}
use Rattle.std.specs.List.{sum_by}
use Rattle.big_job.specs.Totals.{value_of_vertex}
use Rattle.big_job.proofs.totals.sum_of_vertices.Given as goal

-- what is summed and what is still to come are the whole
abbrev pub invariant-loop-vertex : goal.invariant-loop-vertex
invariant-loop-vertex l = (l.sum + sum_by value_of_vertex l._vertex-iterator) % 2 ^ 64 ≡ sum_by value_of_vertex l.fn.vertices % 2 ^ 64
