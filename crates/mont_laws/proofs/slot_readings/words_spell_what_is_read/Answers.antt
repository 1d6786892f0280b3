use Rattle.mont_laws.proofs.SlotReadings.{words_spell_what_is_read}
use Rattle.mont_laws.proofs.slot_readings.words_spell_what_is_read.Goals as goal

pub returns : goal.returns
returns c = words_spell_what_is_read
