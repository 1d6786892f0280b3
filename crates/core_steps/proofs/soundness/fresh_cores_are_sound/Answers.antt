use Rattle.core_steps.proofs.StartLaws.{fresh_cores_are_sound}
use Rattle.core_steps.proofs.soundness.fresh_cores_are_sound.Goals as goal

pub returns : goal.returns
returns c = fresh_cores_are_sound
