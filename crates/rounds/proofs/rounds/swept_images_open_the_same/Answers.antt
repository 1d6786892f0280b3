use Rattle.rounds.proofs.StoredRounds.{swept_images_open_the_same}
use Rattle.rounds.proofs.rounds.swept_images_open_the_same.Goals as goal

pub returns : goal.returns
returns c = swept_images_open_the_same
