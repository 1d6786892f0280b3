use Rattle.std.proofs.Common.{◌≡◌, drop}
use Rattle.std.specs.Prelude.{◌↔◌}
use Rattle.mont_base.specs.History.{runs_of}
use Rattle.plain.specs.States.{state_of}
use Rattle.mont_check.proofs.judged_runs.has_runs.Given as goal

-- they are the runs where those left are the runs of the entries left
abbrev pub invariant-loop-entry : goal.invariant-loop-entry
invariant-loop-entry l =
    (l.fn.runs ≡ runs_of (state_of l.fn.base) l.fn.history)
    ↔ (l.left ≡ runs_of (state_of l.state) (drop l.entry-index l.history))
