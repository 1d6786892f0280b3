use Rattle.std.proofs.Common.{◌≡◌, take, map}
use Rattle.std.specs.Prelude.{None}
use Rattle.core_run.proofs.notes.advancer_note.Given as goal

-- the marks of the units so far
abbrev pub invariant-loop-unit : goal.invariant-loop-unit
invariant-loop-unit l = l.marks ≡ map (λ u. record { unit = u; by = None }) (take l.unit-index l.core.odd)
