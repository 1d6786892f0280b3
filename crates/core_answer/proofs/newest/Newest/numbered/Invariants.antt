use Rattle.std.proofs.Common.{◌≡◌, ◌++◌, length}
use Rattle.std.specs.BTreeMap.{values}
use Rattle.core_answer.specs.Newest.{numbered}
use Rattle.core_answer.proofs.newest.Newest.numbered.Given as goal

-- the records so far in the first slots, and those that are left after them
abbrev pub invariant-loop-newest : goal.invariant-loop-newest
invariant-loop-newest l = l.held.items ++ numbered (length l.held.items) l.newest-iterator ≡ numbered 0 (values l.self.records)
