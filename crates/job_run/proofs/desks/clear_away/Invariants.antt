use Rattle.std.proofs.Common.{◌≡◌, ◌≤◌, length, map}
use Rattle.std.specs.Prelude.{vec_capacity}
use Rattle.job_run.proofs.desks.clear_away.Given as goal

abbrev pub invariant-loop-desk : goal.invariant-loop-desk
invariant-loop-desk g l =
    (l.passes.items ≡ map (λ d. d.pass) l.yielded) × (l.done.items ≡ map (λ d. d.done) l.yielded)
    × (length l.fn.desks.items ≤ vec_capacity l.passes) × (length l.fn.desks.items ≤ vec_capacity l.done)
