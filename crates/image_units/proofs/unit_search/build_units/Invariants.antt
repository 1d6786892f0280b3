use Rattle.std.proofs.Common.{◌≡◌, ℕ, length, map}
use Rattle.std.specs.Prelude.{Some, slice_get}
use Rattle.mont_base.specs.Image.{records_of}
use Rattle.mont_base.specs.State.{State}
use Rattle.mont_base.specs.Structure.{IsStructure}
use Rattle.mont_base.specs.Versions.{live_objects}
use Rattle.plain.specs.States.{state_of}
use Rattle.image_units.specs.Found.{AreFoundUnits}
use Rattle.image_units.proofs.unit_search.build_units.Given as goal

-- what was found of the units so far, and their structures
abbrev pub invariant-loop-unit : goal.invariant-loop-unit
invariant-loop-unit l = record {
  many : length l.units ≡ l.unit;
  built : length l.states ≡ l.unit;
  each : AreFoundUnits l.image.layout l.image.words l.units;
  made : (unit : ℕ) (state : State) → slice_get (map state_of l.states) unit ≡ Some state
      → IsStructure l.image.layout unit (live_objects (records_of l.image.layout l.image.words unit)) state;
}
