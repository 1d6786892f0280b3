use Rattle.std.proofs.Common.{◌≡◌, ℕ, length}
use Rattle.std.specs.Prelude.{Some, slice_get}
use Rattle.image_info.specs.declared.unit_counts.UnitCounts.{UnitCounts}
use Rattle.image_info.specs.UnitCounts.{AreCounts}
use Rattle.image_info.proofs.unit_counts.all_counts.Given as goal

-- the counts of the units so far
abbrev pub invariant-loop-unit : goal.invariant-loop-unit
invariant-loop-unit l = record {
  many : length l.counts.items ≡ l.unit;
  each : (unit : ℕ) (c : UnitCounts) → slice_get l.counts.items unit ≡ Some c → AreCounts l.layout l.wide unit c;
}
