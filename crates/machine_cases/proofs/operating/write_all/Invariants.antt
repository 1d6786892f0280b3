use Rattle.machine_cases.specs.Working.{IsOperating}
use Rattle.machine_cases.proofs.operating.write_all.Given as goal

abbrev pub invariant-loop-one : goal.invariant-loop-one
invariant-loop-one l = IsOperating l.guard l.engine
