use Rattle.std.proofs.Common.{◌≡◌, take}
use Rattle.replay.proofs.schedule_parser.copied.Given as goal

-- so many pairs are there
abbrev pub invariant-loop-pair : goal.invariant-loop-pair
invariant-loop-pair l = l.copy ≡ take l.pair-index l.pair-items
