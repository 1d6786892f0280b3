use Rattle.std.proofs.Common.{ℕ, ◌+◌, ◌*◌, ◌<◌}
use Rattle.plain.specs.Acceptable.{Reads}
use Rattle.plain.proofs.acceptance.is_readable.Given as goal

-- the slots so far
abbrev pub invariant-loop-place : goal.invariant-loop-place
invariant-loop-place l = (place : ℕ) → place < l.place → Reads l.image l.unit (l.unit * l.layout.slots + place)
