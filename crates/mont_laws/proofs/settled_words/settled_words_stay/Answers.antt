use Rattle.mont_laws.proofs.SettledWords.{settled_words_stay}
use Rattle.mont_laws.proofs.settled_words.settled_words_stay.Goals as goal

pub returns : goal.returns
returns c = settled_words_stay
