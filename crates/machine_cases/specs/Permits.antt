-- A unit's part that is judged in place of the one that a seat shows.
use Rattle.std.specs.Prelude.{◌≡◌, ◌≤◌, length}
use Rattle.mont_base.specs.declared.constants.TheConstants.{LAST}
use Rattle.core_answer.specs.Newest.{HaveSameNewest}
use Rattle.core_steps.specs.declared.parts.UnitPart.{UnitPart}
use Rattle.core_steps.specs.declared.parts.UnitStage.{UnitStage}
use Rattle.slots.specs.Books.{RegionShown}

-- It has this stage, what the region's unit has written, and the same newest records. The unit has
-- a number for one more entry.
pub record StandsFor (stage : UnitStage) (r : RegionShown) (p : UnitPart) : Type 0 where
  pub stage_is : p.stage ≡ stage
  pub newest : HaveSameNewest p.records r.seat.known.part.records
  pub written : p.written ≡ r.seat.known.part.written
  pub place : length r.seat.known.part.history ≤ LAST
