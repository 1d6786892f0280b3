use Rattle.mont_laws.proofs.UnitSlots.{slots_have_units}
use Rattle.mont_laws.proofs.slot_words.slots_have_units.Goals as goal

pub returns : goal.returns
returns c = slots_have_units
