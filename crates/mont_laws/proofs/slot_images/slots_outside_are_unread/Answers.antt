use Rattle.mont_laws.proofs.SlotImages.{slots_outside_are_unread}
use Rattle.mont_laws.proofs.slot_images.slots_outside_are_unread.Goals as goal

pub returns : goal.returns
returns c = slots_outside_are_unread
