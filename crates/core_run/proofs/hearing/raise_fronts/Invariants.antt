use Rattle.std.proofs.Common.{◌≡◌, take}
use Rattle.core_steps.specs.Notes.{greater_fronts}
use Rattle.core_run.proofs.hearing.raise_fronts.Given as goal

-- the greater fronts of the units so far
abbrev pub invariant-loop-unit : goal.invariant-loop-unit
invariant-loop-unit l = l.fronts ≡ greater_fronts l.initial.fronts (take l.unit l.others)
