use Rattle.mont_laws.proofs.SlotImages.{records_are_read_or_nothing}
use Rattle.mont_laws.proofs.slot_images.records_are_read_or_nothing.Goals as goal

pub returns : goal.returns
returns c = records_are_read_or_nothing
