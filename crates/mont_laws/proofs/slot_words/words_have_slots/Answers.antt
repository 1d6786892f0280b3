use Rattle.mont_laws.proofs.SlotWords.{words_have_slots}
use Rattle.mont_laws.proofs.slot_words.words_have_slots.Goals as goal

pub returns : goal.returns
returns c = words_have_slots
