use Rattle.std.specs.Io.KnownBytes.{Keeps}
use Rattle.process_devices.proofs.tried_again.write_some.Given as goal

-- a write that failed took nothing
abbrev pub invariant-loop : goal.invariant-loop
invariant-loop g l = Keeps (g.W.Write.contents l.initial.writer) (g.W.Write.contents l.writer)
