use Rattle.std.proofs.Common.{◌≡◌, take}
use Rattle.job_text.proofs.entry_reader.copied.Given as goal

abbrev pub invariant-loop-pair : goal.invariant-loop-pair
invariant-loop-pair l = l.copy ≡ take l.pair-index l.pair-items
