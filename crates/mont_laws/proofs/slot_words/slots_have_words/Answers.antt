use Rattle.mont_laws.proofs.SlotWords.{slots_have_words}
use Rattle.mont_laws.proofs.slot_words.slots_have_words.Goals as goal

pub returns : goal.returns
returns c = slots_have_words
