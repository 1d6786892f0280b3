use Rattle.region_laws.proofs.FoundImages.{images_are_found}
use Rattle.region_laws.proofs.found_images.images_are_found.Goals as goal

pub returns : goal.returns
returns c = images_are_found
