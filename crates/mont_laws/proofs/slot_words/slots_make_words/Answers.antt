use Rattle.mont_laws.proofs.SlotWords.{slots_make_words}
use Rattle.mont_laws.proofs.slot_words.slots_make_words.Goals as goal

pub returns : goal.returns
returns c = slots_make_words
