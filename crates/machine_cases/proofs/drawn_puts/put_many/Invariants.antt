use Rattle.machine_cases.specs.Working.{IsIdle}
use Rattle.machine_cases.proofs.drawn_puts.put_many.Given as goal

abbrev pub invariant-loop-number : goal.invariant-loop-number
invariant-loop-number g l = IsIdle l.engine
