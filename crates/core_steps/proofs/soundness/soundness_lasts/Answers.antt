use Rattle.core_steps.proofs.Steps.{all_law}
use Rattle.core_steps.proofs.soundness.soundness_lasts.Goals as goal

pub returns : goal.returns
returns c = all_law
