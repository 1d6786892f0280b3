use Rattle.std.proofs.Common.{◌≡◌, ◌≤◌, take, drop}
use Rattle.std.specs.Vec.{vec_capacity}
use Rattle.heap.proofs.stopping.words_from.Given as goal

abbrev pub invariant-loop-place : goal.invariant-loop-place
invariant-loop-place l =
    (l.words.items ≡ take l.place (drop l.first l.closed.words.items)) × (l.count ≤ vec_capacity l.words)
