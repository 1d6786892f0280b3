-- The epoch at hand is a clock that was loaded. The unit isn't registered, and nothing else changed.
use Rattle.std.proofs.Common.{◌+◌, ◌≤◌, false}
use Rattle.heap_rule.specs.Plays.{IsClock}
use Rattle.heap.specs.GateAsked.{IsAskedOften}
use Rattle.announce.specs.Registering.{IsOut}
use Rattle.announce.proofs.registration.register.Given as goal

abbrev pub invariant-loop : goal.invariant-loop
invariant-loop g l = record {
  out : IsOut l.fn.seat l.seat;
  steps : l.fn.seat.known.steps + 1 ≤ l.seat.known.steps;
  clock : IsClock l.fn.seat.known.learnt l.fn.seat.known.part l.epoch;
  gate : IsAskedOften g.G.Gate.cuts g.G.Gate.endless l.fn.gate l.gate false;
}
