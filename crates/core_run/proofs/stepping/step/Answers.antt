use Rattle.std.proofs.Common.{subst, sym}
use Rattle.core_steps.specs.Sound.{IsSound}
use Rattle.core_steps.proofs.Steps.{allowed_law}
use Rattle.core_run.proofs.stepping.step.Goals as goal

pub returns-clause-sound : goal.returns-clause-sound
returns-clause-sound c =
    λ base s. subst (IsSound base) (sym c.in_ok-make.ensures.ok)
    (allowed_law base c.args.core.now c.args.event.now s (c.in_ok-allowed.ensures.allowed.0 c.if-not-branch.false))
