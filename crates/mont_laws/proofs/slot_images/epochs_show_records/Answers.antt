use Rattle.mont_laws.proofs.SlotImages.{epochs_show_records}
use Rattle.mont_laws.proofs.slot_images.epochs_show_records.Goals as goal

pub returns : goal.returns
returns c = epochs_show_records
