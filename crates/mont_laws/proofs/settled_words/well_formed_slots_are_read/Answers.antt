use Rattle.mont_laws.proofs.SettledWords.{well_formed_slots_are_read}
use Rattle.mont_laws.proofs.settled_words.well_formed_slots_are_read.Goals as goal

pub returns : goal.returns
returns c = well_formed_slots_are_read
