use Rattle.std.proofs.Common.{◌≤◌, length}
use Rattle.pordered.proofs.RangeWalk.{HasFirst}
use Rattle.pordered.proofs.pordered.POrdered.pairs.Given as goal

-- so many pairs of the range so far
abbrev pub invariant-loop-number : goal.invariant-loop-number
invariant-loop-number l = record {
  few : length l.pairs ≤ l.number;
  first : HasFirst l.self.region l.fn.from l.fn.to l.number l.pairs;
}
