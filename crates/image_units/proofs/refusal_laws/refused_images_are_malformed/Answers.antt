use Rattle.image_units.proofs.Accepted.{malformed}
use Rattle.image_units.proofs.refusal_laws.refused_images_are_malformed.Goals as goal

pub returns : goal.returns
returns c = malformed
