use Rattle.machine_cases.specs.Working.{IsIdle}
use Rattle.machine_cases.proofs.call_lines.play.Given as goal

abbrev pub invariant-loop-line : goal.invariant-loop-line
invariant-loop-line g l = IsIdle l.engine
