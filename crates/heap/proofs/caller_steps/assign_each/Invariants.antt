use Rattle.std.proofs.Common.{◌≡◌, length, take}
use Rattle.heap.proofs.caller_steps.assign_each.Given as goal

abbrev pub invariant-loop-place : goal.invariant-loop-place
invariant-loop-place l =
    (length l.numbers ≡ length l.others) × (take l.place l.numbers ≡ take l.place l.others)
