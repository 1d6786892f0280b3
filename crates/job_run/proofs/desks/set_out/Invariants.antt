use Rattle.std.proofs.Common.{◌≡◌, ◌≤◌, length, map}
use Rattle.std.specs.Prelude.{vec_capacity}
use Rattle.job_run.specs.Desks.{empty_desk}
use Rattle.job_run.proofs.desks.set_out.Given as goal

abbrev pub invariant-loop-pass : goal.invariant-loop-pass
invariant-loop-pass g l =
    (l.desks.items ≡ map empty_desk l.yielded) × (length l.fn.passes.items ≤ vec_capacity l.desks)
