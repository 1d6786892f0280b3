use Rattle.mont_laws.proofs.SlotImages.{images_have_parts}
use Rattle.mont_laws.proofs.slot_images.images_have_parts.Goals as goal

pub returns : goal.returns
returns c = images_have_parts
