use Rattle.std.proofs.Common.{◌≡◌, List, ℕ, ◌++◌, length}
use Rattle.std.specs.Io.KnownBytes.{Appends}
use Rattle.mont_base.proofs.delivery.deliver.Given as goal

-- the bytes before the rest were taken
abbrev pub invariant-loop-rest : goal.invariant-loop-rest
invariant-loop-rest g l = record {
  sent : (front : List ℕ) × (l.bytes ≡ front ++ l.rest) × Appends (g.K.Sink.taken l.initial.sink) (g.K.Sink.taken l.sink) front;
  kept : g.K.Sink.faults l.sink ≡ g.K.Sink.faults l.initial.sink;
}

abbrev pub decreases-loop-rest : goal.decreases-loop-rest
decreases-loop-rest g l = length l.rest
