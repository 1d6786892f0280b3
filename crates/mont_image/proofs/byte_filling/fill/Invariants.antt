use Rattle.std.proofs.Common.{◌≡◌, ◌-◌, ◌≤◌, length, take}
use Rattle.std.specs.Io.KnownBytes.{Consumes}
use Rattle.mont_image.proofs.byte_filling.fill.Given as goal

-- the bytes so far stand in the front of the buffer, and the source didn't fail
abbrev pub invariant-loop-count : goal.invariant-loop-count
invariant-loop-count g l = record {
  taken : Consumes (g.S.Source.left l.initial.source) (g.S.Source.left l.source) (take l.count l.buf);
  kept : g.S.Source.faults l.source ≡ g.S.Source.faults l.initial.source;
  bound : l.count ≤ length l.buf;
}

abbrev pub decreases-loop-count : goal.decreases-loop-count
decreases-loop-count g l = length l.initial.buf - l.count
