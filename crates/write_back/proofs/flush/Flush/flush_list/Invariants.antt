use Rattle.std.proofs.Common.{◌≡◌, ◌*◌, ◌-◌, false, length}
use Rattle.mont_base.specs.declared.constants.TheConstants.{FIELDS}
use Rattle.heap.specs.GateAsked.{IsAskedOften}
use Rattle.write_back.specs.AskedSteps.{AsksEachStep}
use Rattle.write_back.specs.Flush.{StandsAt, slots_out, words_done, with_flush_of}
use Rattle.write_back.proofs.flush.Flush.flush_list.Given as goal

abbrev pub invariant-loop-slot : goal.invariant-loop-slot
invariant-loop-slot g l = record {
  gate : IsAskedOften g.G.Gate.cuts g.G.Gate.endless l.fn.gate l.gate false;
  asked : AsksEachStep g.G.Gate.asked l.fn.seat.known.steps l.seat.known.steps l.fn.gate l.gate false;
  stands : StandsAt l.self l.seat.known;
  stays : l.seat ≡ record { table = l.fn.seat.table; known = with_flush_of l.fn.seat.known l.seat.known };
  turn : l.seat.known.turn ≡ l.fn.seat.known.turn;
}

abbrev pub decreases-loop-slot : goal.decreases-loop-slot
decreases-loop-slot g l = FIELDS * length (slots_out l.seat.known) - words_done l.self
