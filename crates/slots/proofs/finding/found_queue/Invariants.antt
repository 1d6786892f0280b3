use Rattle.std.proofs.Common.{◌≡◌, ◌≤◌, ◌++◌, drop, map}
use Rattle.std.specs.VecDeque.{deque_capacity}
use Rattle.mont_laws.specs.declared.retiring.Retired.{Retired}
use Rattle.mont_laws.specs.Retiring.{retired_among}
use Rattle.slots.proofs.finding.found_queue.Given as goal

-- the records that are left lead to the same queue
abbrev pub invariant-loop-place : goal.invariant-loop-place
invariant-loop-place l =
    (l.queue.items ++ retired_among (drop l.place l.sorted) ≡ retired_among l.sorted)
    × (l.slots.items ≡ map (λ (t : Retired). t.slot) l.queue.items)
    × (l.room ≤ deque_capacity l.queue)
