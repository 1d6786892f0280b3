use Rattle.core_steps.proofs.CutLaws.{images_hold_synced}
use Rattle.core_steps.proofs.cuts.images_hold_synced.Goals as goal

pub returns : goal.returns
returns c = images_hold_synced
