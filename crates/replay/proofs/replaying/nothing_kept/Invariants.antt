use Rattle.std.proofs.Common.{◌≡◌, replicate}
use Rattle.std.specs.Prelude.{None}
use Rattle.replay.proofs.replaying.nothing_kept.Given as goal

-- nothing of so many units
abbrev pub invariant-loop-unit : goal.invariant-loop-unit
invariant-loop-unit l = l.kept ≡ replicate l._unit None
