use Rattle.std.proofs.Common.{take}
use Rattle.image_info.specs.EpochCounts.{HasNumbers}
use Rattle.image_info.proofs.epoch_counts.numbers_of_epochs.Given as goal

-- the numbers of the records so far
abbrev pub invariant-loop-held : goal.invariant-loop-held
invariant-loop-held l = HasNumbers l.numbers (take l.held-index l.records)
