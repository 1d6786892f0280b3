use Rattle.std.proofs.Common.{◌≡◌, ◌≤◌, length}
use Rattle.std.specs.Prelude.{filter}
use Rattle.std.specs.List.{range_with_len}
use Rattle.std.specs.VecDeque.{deque_capacity}
use Rattle.slots.specs.Finding.{is_unused}
use Rattle.slots.proofs.finding.unused_slots.Given as goal

abbrev pub invariant-loop-place : goal.invariant-loop-place
invariant-loop-place l =
    (l.unused.items ≡ filter (is_unused l.first l.rows l.marks) (range_with_len l.first l.place))
    × (length l.rows ≤ deque_capacity l.unused)
