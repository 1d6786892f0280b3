use Rattle.mont_laws.proofs.SettledWords.{empty_words_are_a_store}
use Rattle.mont_laws.proofs.settled_words.empty_words_are_a_store.Goals as goal

pub returns : goal.returns
returns c = empty_words_are_a_store
