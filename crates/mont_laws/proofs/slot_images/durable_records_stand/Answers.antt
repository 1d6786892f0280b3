use Rattle.mont_laws.proofs.SlotImages.{durable_records_stand}
use Rattle.mont_laws.proofs.slot_images.durable_records_stand.Goals as goal

pub returns : goal.returns
returns c = durable_records_stand
