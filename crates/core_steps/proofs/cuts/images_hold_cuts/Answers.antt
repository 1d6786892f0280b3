use Rattle.core_steps.proofs.CutLaws.{images_hold_cuts}
use Rattle.core_steps.proofs.cuts.images_hold_cuts.Goals as goal

pub returns : goal.returns
returns c = images_hold_cuts
