use Rattle.recover.proofs.StoppedImages.{stopped_stores_are_recovered}
use Rattle.recover.proofs.stopped_images.stopped_stores_are_recovered.Goals as goal

pub returns : goal.returns
returns c = stopped_stores_are_recovered
