use Rattle.std.proofs.Common.{◌≡◌, ◌++◌, map, drop}
use Rattle.heap.proofs.list_calls.push_slots.Given as goal

-- what is left leads to the same slots
abbrev pub invariant-loop-one : goal.invariant-loop-one
invariant-loop-one g l =
    (l.list.slots ++ map g.W.InSlot.in_slot (drop l.one-index l.written)
    ≡ l.initial.list.slots ++ map g.W.InSlot.in_slot l.written)
    × (l.list.room ≡ l.initial.list.room)
