use Rattle.heap.proofs.StoppedCuts.{stopped_words_hold_cuts}
use Rattle.heap.proofs.stopping.stopped_words_hold_cuts.Goals as goal

pub returns : goal.returns
returns c = stopped_words_hold_cuts
