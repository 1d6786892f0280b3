use Rattle.std.proofs.Common.{◌≡◌, false}
use Rattle.heap.specs.GateAsked.{IsAskedOften}
use Rattle.write_back.specs.AskedSteps.{AsksEachStep}
use Rattle.write_back.specs.Flush.{StandsAt, with_flush_of}
use Rattle.write_back.proofs.flush.Flush.flush_epoch.Given as goal

abbrev pub invariant-loop-unit : goal.invariant-loop-unit
invariant-loop-unit g l = record {
  unit : l.self.unit ≡ l._unit;
  gate : IsAskedOften g.G.Gate.cuts g.G.Gate.endless l.fn.gate l.gate false;
  asked : AsksEachStep g.G.Gate.asked l.fn.seat.known.steps l.seat.known.steps l.fn.gate l.gate false;
  stands : StandsAt l.self l.seat.known;
  stays : l.seat ≡ record { table = l.fn.seat.table; known = with_flush_of l.fn.seat.known l.seat.known };
}
