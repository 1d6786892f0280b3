use Rattle.std.proofs.Common.{ℕ, ◌<◌}
use Rattle.plain.specs.Acceptable.{IsAcceptableUnit}
use Rattle.plain.proofs.acceptance.is_well_formed.Given as goal

-- the units so far
abbrev pub invariant-loop-unit : goal.invariant-loop-unit
invariant-loop-unit l = (unit : ℕ) → unit < l.unit → IsAcceptableUnit l.layout l.image unit
