use Rattle.plain.specs.States.{states_of}
use Rattle.job_report.proofs.RunLaws.{AreFirst}
use Rattle.job_report.proofs.found_runs.all_runs.Given as goal

-- the runs of the units so far
abbrev pub invariant-loop-unit : goal.invariant-loop-unit
invariant-loop-unit l = AreFirst (states_of l.base) l.histories l.runs l.unit
