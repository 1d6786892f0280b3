use Rattle.std.proofs.Common.{◌≡◌, ◌++◌, drop}
use Rattle.std.specs.Prelude.{All}
use Rattle.mont_base.specs.History.{runs_of, IsShort}
use Rattle.plain.specs.States.{state_of}
use Rattle.job_report.proofs.found_runs.runs_of.Given as goal

-- the runs so far, and those of the entries left
abbrev pub invariant-loop-entry : goal.invariant-loop-entry
invariant-loop-entry l =
    All IsShort l.history
    → l.runs ++ runs_of (state_of l.state) (drop l.entry-index l.history) ≡ runs_of (state_of l.base) l.history
