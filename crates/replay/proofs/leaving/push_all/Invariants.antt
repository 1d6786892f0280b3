use Rattle.std.proofs.Common.{◌≡◌, ◌++◌, take}
use Rattle.replay.proofs.leaving.push_all.Given as goal

-- the records so far
abbrev pub invariant-loop-held : goal.invariant-loop-held
invariant-loop-held l = l.records ≡ l.initial.records ++ take l.held-index l.written
