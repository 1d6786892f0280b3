use Rattle.recover.proofs.StoppedImages.{swept_stores_are_recovered}
use Rattle.recover.proofs.stopped_images.swept_stores_are_recovered.Goals as goal

pub returns : goal.returns
returns c = swept_stores_are_recovered
