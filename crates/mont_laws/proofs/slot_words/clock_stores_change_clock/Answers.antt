use Rattle.mont_laws.proofs.SlotWords.{clock_stores_change_clock}
use Rattle.mont_laws.proofs.slot_words.clock_stores_change_clock.Goals as goal

pub returns : goal.returns
returns c = clock_stores_change_clock
