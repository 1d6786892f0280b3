use Rattle.std.proofs.Common.{◌≡◌, ℕ, ◌+◌, ◌-◌, ◌<◌, ◌≤◌, max, length}
use Rattle.std.specs.Prelude.{slice_get}
use Rattle.store_stop.proofs.told_histories.place_entry.Given as goal

abbrev pub decreases-loop-entry : goal.decreases-loop-entry
decreases-loop-entry l = l.place + 1 - length l.history.items

abbrev pub invariant-loop-entry : goal.invariant-loop-entry
invariant-loop-entry l =
    (length l.initial.history.items ≤ length l.history.items)
    × (length l.history.items ≤ max (length l.initial.history.items) (l.place + 1))
    × ((place : ℕ) → place < length l.initial.history.items
    → slice_get l.history.items place ≡ slice_get l.initial.history.items place)
