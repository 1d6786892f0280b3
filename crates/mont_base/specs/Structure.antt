-- The structure that the live objects of a unit make, or the first fault that they have.
use Rattle.std.specs.Prelude.{◌≡◌, ℕ, Bool, true, false, ◌&&◌, ◌||◌, ◌==◌, not, nat_le, List, [], ◌∷◌, ◌++◌, if◌then◌else◌, Option, Some, None}
use Rattle.std.specs.List.{list_any, filter_map}
use Rattle.std.specs.Ordering.{nat_cmp, eq_by_cmp}
use Rattle.std.specs.FinMap as finite
use Rattle.mont_base.specs.declared.constants.TheConstants.{LAST}
use Rattle.mont_base.specs.declared.record.Object.{Object}
use Rattle.mont_base.specs.declared.record.ObjectFault.{ObjectFault}
use Rattle.mont_base.specs.declared.record.ObjectFault.TheVariants as faults
use Rattle.mont_base.specs.declared.kinds.UnitKind.{UnitKind}
use Rattle.mont_base.specs.declared.kinds.UnitKind.TheVariants as kinds
use Rattle.mont_base.specs.Layout.{Shape, unit_of_key, kind_of, is_of_kind}
use Rattle.mont_base.specs.State.{State, MapOf, QueueOf, GraphOf, Key, Value, Pairs, Ends, Graph, key_cmp, edge_cmp}
use Rattle.mont_base.specs.Bodies.{pair_in, item_in, vertex_in, edge_in, is_vertex_body, is_edge_body}

-- ---- what the body of an object says
abbrev pub pair_at : Object → Option (Key × Value)
pair_at o = pair_in o.body

abbrev pub item_at : Object → Option (ℕ × ℕ)
item_at o = item_in o.body

abbrev pub vertex_at : Object → Option (ℕ × ℕ)
vertex_at o = vertex_in o.body

abbrev pub edge_at : Object → Option (Ends × ℕ)
edge_at o = edge_in o.body

-- ---- the first object with a fault, of objects by rising slot after these
abbrev pub or_else : {A : Type 0} → Option A → Option A → Option A
or_else None b = b
or_else (Some a) b = Some a

abbrev pub at_slot : ℕ → Option ObjectFault → Option (ℕ × ObjectFault)
at_slot slot None = None
at_slot slot (Some fault) = Some (slot, fault)

abbrev pub first_fault :
    (List Object → Object → Option ObjectFault) → List Object → List Object
    → Option (ℕ × ObjectFault)
first_fault fault_of lower [] = None
first_fault fault_of lower (o ∷ os) =
    or_else (at_slot o.slot (fault_of lower o)) (first_fault fault_of (lower ++ o ∷ []) os)

-- an object names what this test looks for
abbrev pub names : {A B : Type 0} → (A → Bool) → Option (A × B) → Bool
names is None = false
names is (Some e) = is e.0

abbrev pub fault_if : Bool → ObjectFault → Option ObjectFault
fault_if true fault = Some fault
fault_if false fault = None

-- ---- maps and ordered units: words of a key or a value that are no text, a key of another unit, a
-- key that stands in a lower slot
abbrev pub is_unit : Option ℕ → ℕ → Bool
is_unit None unit = false
is_unit (Some u) unit = u == unit

-- a map unit keeps the keys that belong to it, and an ordered unit all keys
abbrev pub keeps_key : Shape → ℕ → Key → Bool
keeps_key s unit key = is_unit (unit_of_key s key) unit || is_of_kind (kind_of s unit) kinds.Ordered

abbrev pub has_key : Key → Object → Bool
has_key key o = names (eq_by_cmp key_cmp key) (pair_at o)

abbrev pub pair_fault : Shape → ℕ → List Object → Option (Key × Value) → Option ObjectFault
pair_fault s unit lower None = Some faults.Text
pair_fault s unit lower (Some p) =
    if not (keeps_key s unit p.0) then Some faults.Shard else fault_if
    (list_any (has_key p.0) lower) faults.Key

abbrev pub map_fault : Shape → ℕ → List Object → Object → Option ObjectFault
map_fault s unit lower o = pair_fault s unit lower (pair_at o)

-- ---- queues: a word that isn't used and isn't 0, a serial that is none or stands in a lower slot
abbrev pub has_serial : ℕ → Object → Bool
has_serial serial o = names (eq_by_cmp nat_cmp serial) (item_at o)

abbrev pub is_serial : ℕ → Bool
is_serial serial = nat_le 1 serial && nat_le serial LAST

abbrev pub item_fault : List Object → Option (ℕ × ℕ) → Option ObjectFault
item_fault lower None = Some faults.Spare
item_fault lower (Some e) =
    if not (is_serial e.0) then Some faults.Serial else fault_if (list_any (has_serial e.0) lower)
    faults.Serial

abbrev pub queue_fault : List Object → Object → Option ObjectFault
queue_fault lower o = item_fault lower (item_at o)

-- ---- graphs: no tag, a word that isn't used and isn't 0, an edge to where it begins, a vertex or
-- an edge that stands in a lower slot
abbrev pub has_vertex : ℕ → Object → Bool
has_vertex vertex o = names (eq_by_cmp nat_cmp vertex) (vertex_at o)

abbrev pub has_edge : Ends → Object → Bool
has_edge ends o = names (eq_by_cmp edge_cmp ends) (edge_at o)

abbrev pub vertex_fault : List Object → Option (ℕ × ℕ) → Option ObjectFault
vertex_fault lower None = Some faults.Spare
vertex_fault lower (Some e) = fault_if (list_any (has_vertex e.0) lower) faults.Vertex

abbrev pub edge_fault : List Object → Option (Ends × ℕ) → Option ObjectFault
edge_fault lower None = Some faults.Spare
edge_fault lower (Some e) =
    if e.0.0 == e.0.1 then Some faults.Loop else fault_if (list_any (has_edge e.0) lower)
    faults.Edge

abbrev pub part_fault : List Object → Object → Option ObjectFault
part_fault lower o =
    if is_vertex_body o.body then vertex_fault lower (vertex_at o)
    else (if is_edge_body o.body then edge_fault lower (edge_at o) else Some faults.Tag)

-- after these, an edge one of whose ends is no vertex
abbrev pub lacks_end : List Object → Option (Ends × ℕ) → Bool
lacks_end all None = false
lacks_end all (Some e) = not (list_any (has_vertex e.0.0) all && list_any (has_vertex e.0.1) all)

abbrev pub end_fault : List Object → List Object → Option (ℕ × ObjectFault)
end_fault all [] = None
end_fault all (o ∷ os) =
    if lacks_end all (edge_at o) then Some (o.slot, faults.End) else end_fault all os

abbrev pub graph_fault : List Object → Option (ℕ × ObjectFault)
graph_fault os = or_else (first_fault part_fault [] os) (end_fault os os)

-- ---- what the objects make
-- each object maps its key to its value
abbrev pub pairs_of : List Object → Pairs
pairs_of os = finite.from_entries (filter_map pair_at os)

-- the items stand by rising serial
abbrev pub row_of : List Object → finite.FinMap nat_cmp ℕ
row_of os = finite.from_entries (filter_map item_at os)

abbrev pub items_of : List Object → List ℕ
items_of os = finite.values (row_of os)

-- the vertices and the edges that the objects name
abbrev pub graph_of : List Object → Graph
graph_of os =
    record {
      vertices = finite.from_entries (filter_map vertex_at os);
      edges = finite.from_entries
          (filter_map edge_at os);
    }

-- The first fault of a unit's objects, which stand by rising slot, and the structure that they make
-- where they have none.
abbrev pub object_fault : Shape → ℕ → UnitKind → List Object → Option (ℕ × ObjectFault)
object_fault s unit kinds.Map os = first_fault (map_fault s unit) [] os
object_fault s unit kinds.Queue os = first_fault queue_fault [] os
object_fault s unit kinds.Graph os = graph_fault os
object_fault s unit kinds.Ordered os = first_fault (map_fault s unit) [] os

abbrev pub structure_of : UnitKind → List Object → State
structure_of kinds.Map os = MapOf (pairs_of os)
structure_of kinds.Queue os = QueueOf (items_of os)
structure_of kinds.Graph os = GraphOf (graph_of os)
structure_of kinds.Ordered os = MapOf (pairs_of os)

-- The structure of a unit's objects, which is defined exactly where they have no fault.
pub record IsStructure (s : Shape) (unit : ℕ) (os : List Object) (state : State) : Type 0 where
  pub kind : UnitKind
  pub of_unit : kind_of s unit ≡ Some kind
  pub sound : object_fault s unit kind os ≡ None
  pub made : state ≡ structure_of kind os
