use Rattle.std.proofs.Common.{◌≡◌, ◌+◌, false}
use Rattle.heap.specs.GateAsked.{IsAskedOften}
use Rattle.slots.proofs.Stores.{seat_begun}
use Rattle.slots.proofs.putting.store_record.Given as goal

-- so many fields were stored, and no question was answered by a cut
abbrev pub invariant-loop-at : goal.invariant-loop-at
invariant-loop-at g l =
    (l.seat ≡ seat_begun l.fn.seat l.held (3 + l.at)) × IsAskedOften g.G.Gate.cuts g.G.Gate.endless l.fn.gate l.gate false
