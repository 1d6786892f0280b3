use Rattle.std.proofs.Common.{false, length}
use Rattle.heap.specs.GateAsked.{IsAskedOften}
use Rattle.slots.proofs.Reclaims.{IsReclaiming}
use Rattle.slots.proofs.region.Region.reclaim.Given as goal

-- some of what is due is closed, and no question was answered by a cut
abbrev pub invariant-loop-slot : goal.invariant-loop-slot
invariant-loop-slot g l =
    IsReclaiming l.heap (record { seat = l.fn.self.seat; books = l.fn.self.books })
    (record { seat = l.self.seat; books = l.self.books }) l.clock
    × IsAskedOften g.G.Gate.cuts g.G.Gate.endless l.fn.gate l.gate false

abbrev pub decreases-loop-slot : goal.decreases-loop-slot
decreases-loop-slot g l = length l.self.books.retired
