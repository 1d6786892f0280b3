use Rattle.std.proofs.Common.{◌≡◌, length}
use Rattle.std.specs.Io.KnownBytes.{Keeps}
use Rattle.process_devices.proofs.tried_again.read_some.Given as goal

-- the buffer keeps its length, and a read that failed consumed nothing
abbrev pub invariant-loop : goal.invariant-loop
invariant-loop g l =
    (length l.buf ≡ length l.initial.buf) × Keeps (g.R.Read.remaining l.initial.reader) (g.R.Read.remaining l.reader)
