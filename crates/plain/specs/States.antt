-- The states in memory as plain values.
use Rattle.std.specs.Prelude.{List, map}
use Rattle.mont_base.specs.State.{State, MapOf, QueueOf, GraphOf}
use Rattle.plain.specs.declared.unit_state.UnitState.{UnitState}
use Rattle.plain.specs.declared.unit_state.UnitState.TheVariants.{Map, Queue, Graph, Ordered}
use Rattle.plain.specs.declared.contents.Contents.{Contents}

abbrev pub state_of : UnitState → State
state_of (Map state) = MapOf state
state_of (Queue state) = QueueOf state
state_of (Graph state) = GraphOf state
state_of (Ordered state) = MapOf state

-- unit by unit
abbrev pub states_of : Contents → List State
states_of c = map state_of c.units
