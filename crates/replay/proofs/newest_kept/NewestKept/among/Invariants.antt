use Rattle.std.proofs.Common.{take}
use Rattle.std.specs.BTreeMap.{values}
use Rattle.core_answer.specs.Newest.{HaveSameNewest}
use Rattle.replay.proofs.newest_kept.NewestKept.among.Given as goal

-- the newest of the records so far
abbrev pub invariant-loop-held : goal.invariant-loop-held
invariant-loop-held l = HaveSameNewest (values l.newest.records) (take l.held-index l.records)
