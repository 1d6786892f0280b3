use Rattle.std.proofs.Common.{◌≡◌, length}
use Rattle.store_cases.proofs.round_openings.endless_gates.Given as goal

-- a gate for each caller so far
abbrev pub invariant-loop-caller : goal.invariant-loop-caller
invariant-loop-caller l = length l.gates.items ≡ l._caller
