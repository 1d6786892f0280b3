use Rattle.mont_laws.proofs.SlotWords.{stores_change_one_field}
use Rattle.mont_laws.proofs.slot_words.stores_change_one_field.Goals as goal

pub returns : goal.returns
returns c = stores_change_one_field
