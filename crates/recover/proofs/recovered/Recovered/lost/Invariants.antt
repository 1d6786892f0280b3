-- What is left to count.
use Rattle.std.proofs.Common.{◌≡◌, ◌+◌, drop}
use Rattle.recover.specs.Recovery.{lost_in}
use Rattle.recover.proofs.recovered.Recovered.lost.Given as goal

abbrev pub invariant-loop-region : goal.invariant-loop-region
invariant-loop-region l = l.lost + lost_in (drop l.region-index l.region-items) ≡ lost_in l.region-items
