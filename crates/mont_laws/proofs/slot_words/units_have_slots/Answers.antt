use Rattle.mont_laws.proofs.UnitSlots.{units_have_slots}
use Rattle.mont_laws.proofs.slot_words.units_have_slots.Goals as goal

pub returns : goal.returns
returns c = units_have_slots
