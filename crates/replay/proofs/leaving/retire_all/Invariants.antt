use Rattle.std.proofs.Common.{◌≡◌, ◌++◌, take}
use Rattle.std.specs.BTreeMap.{values}
use Rattle.mont_laws.specs.Retiring.{retired_by_all}
use Rattle.replay.proofs.leaving.retire_all.Given as goal

-- what the records so far retire
abbrev pub invariant-loop-held : goal.invariant-loop-held
invariant-loop-held l = l.retired ≡ l.initial.retired ++ retired_by_all (values l.newest.records) (take l.held-index l.written)
