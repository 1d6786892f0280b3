use Rattle.core_steps.proofs.StartLaws.{recovered_cores_are_sound}
use Rattle.core_steps.proofs.soundness.recovered_cores_are_sound.Goals as goal

pub returns : goal.returns
returns c = recovered_cores_are_sound
