use Rattle.core_steps.proofs.RecoveredCores.{images_are_recovered}
use Rattle.core_steps.proofs.soundness.images_are_recovered.Goals as goal

pub returns : goal.returns
returns c = images_are_recovered
