use Rattle.std.proofs.Common.{List, ◌++◌, take}
use Rattle.std.specs.BTreeMap.{values}
use Rattle.mont_base.specs.declared.record.Held.{Held}
use Rattle.core_answer.specs.Newest.{HaveSameNewest}
use Rattle.replay.proofs.leaving.keep_all.Given as goal

-- the newest among the records and those so far
abbrev pub invariant-loop-held : goal.invariant-loop-held
invariant-loop-held l =
    (records : List Held) → HaveSameNewest (values l.initial.newest.records) records
    → HaveSameNewest (values l.newest.records) (records ++ take l.held-index l.written)
