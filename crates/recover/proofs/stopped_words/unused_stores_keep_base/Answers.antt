use Rattle.recover.proofs.StoppedWords.{unused_stores_keep_base}
use Rattle.recover.proofs.stopped_words.unused_stores_keep_base.Goals as goal

pub returns : goal.returns
returns c = unused_stores_keep_base
