use Rattle.std.proofs.Common.{◌-◌, ◌++◌, List, ℕ}
use Rattle.std.specs.List.{range_with_len}
use Rattle.scan.specs.Scanned.{IsScanOf}
use Rattle.scan.proofs.slots.look_on.Given as goal

-- what was found among the slots so far
abbrev pub invariant-loop-slot : goal.invariant-loop-slot
invariant-loop-slot l =
    (slots : List ℕ) → IsScanOf l.layout l.image slots l.initial.scan
    → IsScanOf l.layout l.image (slots ++ range_with_len l.first (l.slot - l.first)) l.scan
