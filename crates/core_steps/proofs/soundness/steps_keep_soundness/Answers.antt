use Rattle.core_steps.proofs.Steps.{allowed_law}
use Rattle.core_steps.proofs.soundness.steps_keep_soundness.Goals as goal

pub returns : goal.returns
returns c = allowed_law
