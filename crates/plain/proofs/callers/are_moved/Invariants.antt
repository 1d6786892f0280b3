use Rattle.std.proofs.Common.{◌≡◌, ◌==◌, ◌+◌, ◌<◌, ℕ, cond, get_or}
use Rattle.plain.proofs.callers.are_moved.Given as goal

-- the fronts so far are the old ones, but for that of the unit
abbrev pub invariant-loop-at : goal.invariant-loop-at
invariant-loop-at l = (k : ℕ) → k < l.at → get_or l.new k 0 ≡ cond (k == l.unit) (l.place + 1) (get_or l.old k 0)
