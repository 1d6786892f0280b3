use Rattle.std.proofs.Common.{◌≡◌, ◌++◌, drop}
use Rattle.std.specs.List.{flat_map}
use Rattle.std.specs.VecDeque.{deque_capacity}
use Rattle.slots.specs.Rooms.{retired_with}
use Rattle.slots.proofs.books.retire_all.Given as goal

-- the records that are left lead to the same queue
abbrev pub invariant-loop-one : goal.invariant-loop-one
invariant-loop-one l =
    (l.retired.items ++ flat_map retired_with (drop l.one-index l.written)
    ≡ l.initial.retired.items ++ flat_map retired_with l.written)
    × (deque_capacity l.retired ≡ deque_capacity l.initial.retired)
