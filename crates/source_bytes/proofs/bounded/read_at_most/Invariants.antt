use Rattle.std.proofs.Common.{◌≡◌, ◌≤◌, ◌-◌, length, vec_len}
use Rattle.std.specs.Io.KnownBytes.{Consumes}
use Rattle.source_bytes.specs.declared.bounded.TheConstants.{CHUNK}
use Rattle.source_bytes.proofs.bounded.read_at_most.Given as goal

-- the bytes so far are the front of what the source had left, and it didn't fail
abbrev pub invariant-loop-chunk : goal.invariant-loop-chunk
invariant-loop-chunk g l =
    Consumes (g.S.Source.left l.initial.source) (g.S.Source.left l.source) l.bytes.items
    × (g.S.Source.faults l.source ≡ g.S.Source.faults l.initial.source) × (vec_len l.bytes ≤ l.most) × (length l.chunk ≡ CHUNK)

abbrev pub decreases-loop-chunk : goal.decreases-loop-chunk
decreases-loop-chunk g l = l.most - vec_len l.bytes
