use Rattle.std.proofs.Common.{◌≡◌, ℕ, length, map}
use Rattle.std.specs.Prelude.{Some, slice_get}
use Rattle.mont_base.specs.State.{State}
use Rattle.mont_base.specs.Image.{records_of}
use Rattle.mont_base.specs.Structure.{IsStructure}
use Rattle.mont_base.specs.Versions.{live_objects}
use Rattle.plain.specs.States.{state_of}
use Rattle.plain.proofs.recovery.recover.Given as goal

-- the structures of the units so far
abbrev pub invariant-loop-unit : goal.invariant-loop-unit
invariant-loop-unit l = record {
  long : length l.units ≡ l.unit;
  each : (unit : ℕ) (state : State) → slice_get (map state_of l.units) unit ≡ Some state
      → IsStructure l.layout unit (live_objects (records_of l.layout l.image unit)) state;
}
