use Rattle.std.proofs.Common.{◌≡◌, ℕ, ◌-◌, ◌<◌, ◌≤◌, true, false, slice_index_or}
use Rattle.heap.proofs.stopping.let_go.Given as goal

abbrev pub invariant-loop-slot : goal.invariant-loop-slot
invariant-loop-slot l = record {
  left : (k : ℕ) → l.slot ≤ k → k < l.closed.slots.len → slice_index_or l.closed.slots.filled k false ≡ true;
  gone : (k : ℕ) → k < l.slot → slice_index_or l.closed.slots.filled k false ≡ false;
}

abbrev pub decreases-loop-slot : goal.decreases-loop-slot
decreases-loop-slot l = l.closed.slots.len - l.slot
