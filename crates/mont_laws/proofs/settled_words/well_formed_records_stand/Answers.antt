use Rattle.mont_laws.proofs.SettledWords.{well_formed_records_stand}
use Rattle.mont_laws.proofs.settled_words.well_formed_records_stand.Goals as goal

pub returns : goal.returns
returns c = well_formed_records_stand
