-- The structure that the records of a unit have, told without an order of the records.
use Rattle.std.specs.Prelude.{◌≡◌, ◌↔◌, ℕ, ◌≤◌, Bool, true, ◌==◌, List, [], Option, Some, None, All, length, if◌then◌else◌}
use Rattle.std.specs.List.{Contains}
use Rattle.std.specs.Ordering.{nat_cmp}
use Rattle.std.specs.FinMap as finite
use Rattle.mont_base.specs.declared.kinds.UnitKind.{UnitKind}
use Rattle.mont_base.specs.declared.operation.Entry.{Entry}
use Rattle.mont_base.specs.declared.record.Held.{Held}
use Rattle.mont_base.specs.Layout.{Shape, kind_of}
use Rattle.mont_base.specs.State.{State, MapOf, QueueOf, GraphOf, Key, Value, Pairs, Ends, Graph, can_join, empty_state, is_kind_of, size_of}
use Rattle.mont_base.specs.History.{state_after, cut_at}
use Rattle.mont_base.specs.Versions.{live_objects}
use Rattle.mont_base.specs.Bodies.{pair_in, item_in, vertex_in, edge_in, is_vertex_body}
use Rattle.mont_base.specs.Structure.{keeps_key, is_serial, IsStructure}
use Rattle.mont_laws.specs.Records.{AreApart, AreSameRecords, IsObsolete, cut_records, without_slot}
use Rattle.mont_laws.specs.Shows.{Shows, live_things}

abbrev pub if_fits : {A : Type 0} → (A → Bool) → Option A → Option A
if_fits fits None = None
if_fits fits (Some a) = if fits a then Some a else None

-- ---- maps and ordered units: the key and the value of a body, where the unit keeps the key
abbrev pub pair_for : Shape → ℕ → List ℕ → Option (Key × Value)
pair_for s unit body = if_fits (λ (p : Key × Value). keeps_key s unit p.0) (pair_in body)

abbrev pub HasPairs : Shape → ℕ → List Held → Pairs → Type 0
HasPairs s unit records pairs = Shows (live_things (pair_for s unit) records) (finite.get pairs)

-- ---- queues: the serial and the item of a body, where the serial is one
abbrev pub item_for : List ℕ → Option (ℕ × ℕ)
item_for body = if_fits (λ (e : ℕ × ℕ). is_serial e.0) (item_in body)

-- items by their serials
abbrev pub Row : Type 0
Row = finite.FinMap nat_cmp ℕ

abbrev pub HasRow : List Held → Row → Type 0
HasRow records row = Shows (live_things item_for records) (finite.get row)

-- the items stand by rising serial
abbrev pub HasItems : List Held → List ℕ → Type 0
HasItems records items = (row : Row) × HasRow records row × (items ≡ finite.values row)

-- ---- graphs: the vertex or the edge of a body, where the edge is no loop
pub data Part : Type 0 where
  AtVertex : (vertex : ℕ) → Part
  AtEdge : (ends : Ends) → Part

abbrev pub vertex_part : Option (ℕ × ℕ) → Option (Part × ℕ)
vertex_part None = None
vertex_part (Some e) = Some (AtVertex e.0, e.1)

abbrev pub edge_part : Option (Ends × ℕ) → Option (Part × ℕ)
edge_part None = None
edge_part (Some e) = if e.0.0 == e.0.1 then None else Some (AtEdge e.0, e.1)

abbrev pub part_for : List ℕ → Option (Part × ℕ)
part_for body =
    if is_vertex_body body then vertex_part (vertex_in body) else edge_part (edge_in body)

abbrev pub attribute_of : Graph → Part → Option ℕ
attribute_of g (AtVertex vertex) = finite.get g.vertices vertex
attribute_of g (AtEdge ends) = finite.get g.edges ends

-- each edge goes from one vertex to another
abbrev pub HasEnds : Graph → Type 0
HasEnds g = (e : Ends) → finite.contains_key g.edges e ≡ true → can_join g.vertices e ≡ true

pub record HasGraph (records : List Held) (g : Graph) : Type 0 where
  pub parts : Shows (live_things part_for records) (attribute_of g)
  pub ends : HasEnds g

-- ---- a unit's state
abbrev pub HasThings : Shape → ℕ → List Held → State → Type 0
HasThings s unit records (MapOf pairs) = HasPairs s unit records pairs
HasThings s unit records (QueueOf items) = HasItems records items
HasThings s unit records (GraphOf graph) = HasGraph records graph

-- The state that the live records of a unit show, in whatever order they stand. There is one
-- exactly where the live objects have no fault.
pub record HasStructure (s : Shape) (unit : ℕ) (records : List Held) (state : State) : Type 0 where
  pub of_unit : is_kind_of (kind_of s unit) state ≡ true
  pub things : HasThings s unit records state

-- the records up to epoch x show the state to which the entries up to epoch x lead
abbrev pub FollowsHistory : Shape → ℕ → State → ℕ → List Held → List Entry → Type 0
FollowsHistory s unit base x records history =
    HasStructure s unit (cut_records x records) (state_after base (cut_at x history))

-- ---- laws

-- records show one state at most
abbrev pub ShowOneState : Type 0
ShowOneState =
    (s : Shape) (unit : ℕ) (records : List Held) (a b : State)
    → HasStructure s unit records a → HasStructure s unit records b → a ≡ b

-- their order makes no difference
abbrev pub ShowInAnyOrder : Type 0
ShowInAnyOrder =
    (s : Shape) (unit : ℕ) (records others : List Held) (state : State)
    → AreApart others → AreSameRecords records others
    → HasStructure s unit records state → HasStructure s unit others state

-- the state is the one that the live objects make in their order, which is defined exactly where
-- they have no fault
abbrev pub AgreeWithObjects : Type 0
AgreeWithObjects =
    (s : Shape) (unit : ℕ) (records : List Held) (state : State) → AreApart records
    → HasStructure s unit records state ↔ IsStructure s unit (live_objects records) state

-- a record that is obsolete by x can be dropped and added
abbrev pub DropObsolete : Type 0
DropObsolete =
    (s : Shape) (unit x : ℕ) (records : List Held) (r : Held) (state : State)
    → AreApart records → Contains records r → IsObsolete x records r
    → HasStructure s unit (cut_records x (without_slot r.slot records)) state
    ↔ HasStructure s unit (cut_records x records) state

-- no records show the empty state
abbrev pub ShowEmpty : Type 0
ShowEmpty =
    (s : Shape) (unit : ℕ) (kind : UnitKind) → kind_of s unit ≡ Some kind
    → HasStructure s unit [] (empty_state kind)

-- records that were found follow a history that is empty yet
abbrev pub FollowNoHistory : Type 0
FollowNoHistory =
    (s : Shape) (unit x : ℕ) (records : List Held) (base : State)
    → All (λ (r : Held). r.label.epoch ≤ x) records → HasStructure s unit records base
    → FollowsHistory s unit base x records []

-- there are as many live objects as things
abbrev pub HaveSize : Type 0
HaveSize =
    (s : Shape) (unit : ℕ) (records : List Held) (state : State)
    → AreApart records → HasStructure s unit records state
    → length (live_objects records) ≡ size_of state
