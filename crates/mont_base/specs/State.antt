-- The structures as plain values, and what an operation does to them (their sequential
-- specification).
use Rattle.std.specs.Prelude.{ℕ, ◌+◌, ◌-◌, ◌≤◌, Bool, true, false, ◌==◌, ◌&&◌, ◌||◌, not, nat_le, List, [], ◌∷◌, ◌++◌, length, map, take, slice_get, Option, Some, None}
use Rattle.std.specs.declared.cmp.Ordering.{Ordering}
use Rattle.std.specs.Ordering.{nat_cmp, ordering_then, is_lt, is_le}
use Rattle.std.specs.List.{filter}
use Rattle.std.specs.FinMap as finite
use Rattle.mont_base.specs.declared.constants.TheConstants.{MOST_PAIRS}
use Rattle.mont_base.specs.declared.kinds.UnitKind.{UnitKind}
use Rattle.mont_base.specs.declared.kinds.UnitKind.TheVariants as kinds
use Rattle.mont_base.specs.declared.operation.Op.{Op}
use Rattle.mont_base.specs.declared.operation.Op.TheVariants as ops
use Rattle.mont_base.specs.declared.operation.Aim.{Aim}
use Rattle.mont_base.specs.declared.operation.Aim.TheVariants as aims
use Rattle.mont_base.specs.declared.operation.Reply.{Reply}
use Rattle.mont_base.specs.declared.operation.Reply.TheVariants as replies
use Rattle.mont_base.specs.declared.operation.Reply.TheVariants.{Nothing, Was, WasText, Count, NoEnds}
use Rattle.mont_base.specs.declared.effect.Thing.{Thing}
use Rattle.mont_base.specs.declared.effect.Thing.TheVariants.{Pair, Item, Vertex, Edge}
use Rattle.mont_base.specs.declared.effect.Effect.{Effect}
use Rattle.mont_base.specs.declared.effect.Effect.TheVariants.{Inserts, Replaces, Removes}
use Rattle.mont_base.specs.Layout.{Shape, same_kind, keeps_pairs, unit_of_key, unit_named}
use Rattle.mont_base.specs.Texts.{text_cmp}

-- keys and values of maps and of ordered units
abbrev pub Key : Type 0
Key = List ℕ

abbrev pub Value : Type 0
Value = List ℕ

abbrev pub key_cmp : Key → Key → Ordering
key_cmp = text_cmp

-- a finite map from keys to values
abbrev pub Pairs : Type 0
Pairs = finite.FinMap key_cmp Value

-- the pairs of a range, by rising key
abbrev pub Run : Type 0
Run = List (Key × Value)

-- vertices with their attributes
abbrev pub Vertices : Type 0
Vertices = finite.FinMap nat_cmp ℕ

-- an edge goes from one vertex to another
abbrev pub Ends : Type 0
Ends = ℕ × ℕ

-- edges go by the vertex that they leave, and then by the one that they reach
abbrev pub edge_cmp : Ends → Ends → Ordering
edge_cmp d e = ordering_then (nat_cmp d.0 e.0) (nat_cmp d.1 e.1)

-- edges with their attributes
abbrev pub Edges : Type 0
Edges = finite.FinMap edge_cmp ℕ

pub record Graph : Type 0 where
  pub vertices : Vertices
  pub edges : Edges

-- The state of a unit. Maps and ordered units have one form.
pub data State : Type 0 where
  MapOf : (pairs : Pairs) → State
  QueueOf : (items : List ℕ) → State
  GraphOf : (graph : Graph) → State

abbrev pub empty_state : UnitKind → State
empty_state kinds.Map = MapOf finite.empty
empty_state kinds.Queue = QueueOf []
empty_state kinds.Graph = GraphOf (record { vertices = finite.empty; edges = finite.empty })
empty_state kinds.Ordered = MapOf finite.empty

-- whether a unit of a kind may have a state
abbrev pub is_state_of : UnitKind → State → Bool
is_state_of kind (MapOf m) = keeps_pairs kind
is_state_of kind (QueueOf items) = same_kind kind kinds.Queue
is_state_of kind (GraphOf g) = same_kind kind kinds.Graph

-- the same of a unit's kind, if there is the unit
abbrev pub is_kind_of : Option UnitKind → State → Bool
is_kind_of None state = false
is_kind_of (Some kind) state = is_state_of kind state

-- how many things are in it
abbrev pub size_of : State → ℕ
size_of (MapOf m) = finite.len m
size_of (QueueOf items) = length items
size_of (GraphOf g) = finite.len g.vertices + finite.len g.edges

-- what an operation leaves, what it is answered, and the things that it inserts, replaces and
-- removes, in their order
pub record Step : Type 0 where
  pub state : State
  pub reply : Reply
  pub effects : List Effect

-- only an answer
abbrev pub answered : State → Reply → Step
answered state reply = record { state = state; reply = reply; effects = [] }

-- a thing is set, which was there or wasn't
abbrev pub set_effects : Bool → Thing → List Effect
set_effects true thing = Replaces thing ∷ []
set_effects false thing = Inserts thing ∷ []

-- ---- maps and ordered units
abbrev pub earlier_text : Option Value → Reply
earlier_text None = Nothing
earlier_text (Some value) = WasText value

abbrev pub pair_put : Pairs → Key → Value → Step
pair_put m key value = record {
  state = MapOf (finite.insert m key value);
  reply = earlier_text (finite.get m key);
  effects = set_effects (finite.contains_key m key) (Pair key value);
}

abbrev pub pair_get : Pairs → Key → Step
pair_get m key = answered (MapOf m) (earlier_text (finite.get m key))

abbrev pub map_del : Pairs → Key → Option Value → Step
map_del m key None = answered (MapOf m) Nothing
map_del m key (Some value) =
    record {
      state = MapOf (finite.remove m key);
      reply = WasText value;
      effects = Removes
          (Pair key value) ∷ [];
    }

abbrev pub pair_del : Pairs → Key → Step
pair_del m key = map_del m key (finite.get m key)

abbrev pub last_of : {A : Type 0} → List A → Option A
last_of xs = slice_get xs (length xs - 1)

-- the greatest key that isn't above this one
abbrev pub floor_of : Pairs → Key → Option (Key × Value)
floor_of m key = last_of (filter (λ (e : Key × Value). is_le (key_cmp e.0 key)) (finite.entries m))

abbrev pub floor_reply : Option (Key × Value) → Reply
floor_reply None = Nothing
floor_reply (Some e) = replies.Key e.0

-- how many keys are below this one
abbrev pub rank_of : Pairs → Key → ℕ
rank_of m key = length
    (filter (λ (e : Key × Value). is_lt (key_cmp e.0 key)) (finite.entries m))

-- the first pairs with a key from one to another, by rising key
abbrev pub is_between : Key → Key → Key → Bool
is_between from to key = is_le (key_cmp from key) && is_le (key_cmp key to)

abbrev pub range_of : Pairs → Key → Key → ℕ → Run
range_of m from to most =
    take most (filter (λ (e : Key × Value). is_between from to e.0) (finite.entries m))

abbrev pub map_step : Pairs → Op → Step
map_step m (ops.Put key value) = pair_put m key value
map_step m (ops.Get key) = pair_get m key
map_step m (ops.Del key) = pair_del m key
map_step m (ops.OPut unit key value) = pair_put m key value
map_step m (ops.OGet unit key) = pair_get m key
map_step m (ops.ODel unit key) = pair_del m key
map_step m (ops.OFloor unit key) = answered (MapOf m) (floor_reply (floor_of m key))
map_step m (ops.ORank unit key) = answered (MapOf m) (Count (rank_of m key))
map_step m (ops.ORange unit from to most) =
    answered (MapOf m) (replies.Pairs (length (range_of m from to most)))
map_step m _ = answered (MapOf m) Nothing

-- ---- queues
abbrev pub queue_deq : List ℕ → Step
queue_deq [] = answered (QueueOf []) Nothing
queue_deq (item ∷ items) =
    record { state = QueueOf items; reply = Was item; effects = Removes (Item item) ∷ [] }

abbrev pub queue_step : List ℕ → Op → Step
queue_step items (ops.Enq unit item) =
    record
    { state = QueueOf (items ++ item ∷ []); reply = Nothing; effects = Inserts (Item item) ∷ [] }
queue_step items (ops.Deq unit) = queue_deq items
queue_step items (ops.Len unit) = answered (QueueOf items) (Count (length items))
queue_step items _ = answered (QueueOf items) Nothing

-- ---- graphs
abbrev pub earlier : Option ℕ → Reply
earlier None = Nothing
earlier (Some number) = Was number

abbrev pub touches : ℕ → Ends → Bool
touches vertex e = (e.0 == vertex) || (e.1 == vertex)

abbrev pub edge_thing : Ends × ℕ → Thing
edge_thing e = Edge e.0.0 e.0.1 e.1

-- the edges from or to a vertex, by rising ends
abbrev pub edges_at : Graph → ℕ → List (Ends × ℕ)
edges_at g vertex = filter (λ (e : Ends × ℕ). touches vertex e.0) (finite.entries g.edges)

-- a vertex goes with every edge from or to it, and these go first
abbrev pub del_vertex : Graph → ℕ → Option ℕ → Step
del_vertex g vertex None = answered (GraphOf g) Nothing
del_vertex g vertex (Some attribute) = record {
  state = GraphOf (record {
    vertices = finite.remove g.vertices vertex;
    edges = finite.retain_keys g.edges (λ e. not (touches vertex e));
  });
  reply = Was attribute;
  effects =
      map (λ e. Removes (edge_thing e)) (edges_at g vertex)
      ++ Removes (Vertex vertex attribute) ∷ [];
}

-- an edge may go from one vertex to another
abbrev pub can_join : Vertices → Ends → Bool
can_join vertices e =
    not (e.0 == e.1) && (finite.contains_key vertices e.0 && finite.contains_key vertices e.1)

abbrev pub add_edge : Graph → Ends → ℕ → Bool → Step
add_edge g e attribute false = answered (GraphOf g) NoEnds
add_edge g e attribute true = record {
  state = GraphOf (record { vertices = g.vertices; edges = finite.insert g.edges e attribute });
  reply = earlier (finite.get g.edges e);
  effects = set_effects (finite.contains_key g.edges e) (edge_thing (e, attribute));
}

abbrev pub del_edge : Graph → Ends → Option ℕ → Step
del_edge g e None = answered (GraphOf g) Nothing
del_edge g e (Some attribute) = record {
  state = GraphOf (record { vertices = g.vertices; edges = finite.remove g.edges e });
  reply = Was attribute;
  effects = Removes (edge_thing (e, attribute)) ∷ [];
}

abbrev pub degree : Graph → ℕ → Bool → Reply
degree g vertex false = Nothing
degree g vertex true = Count (length (edges_at g vertex))

abbrev pub graph_step : Graph → Op → Step
graph_step g (ops.AddV unit vertex attribute) = record {
  state =
      GraphOf (record { vertices = finite.insert g.vertices vertex attribute; edges = g.edges });
  reply = earlier (finite.get g.vertices vertex);
  effects = set_effects (finite.contains_key g.vertices vertex) (Vertex vertex attribute);
}
graph_step g (ops.DelV unit vertex) = del_vertex g vertex (finite.get g.vertices vertex)
graph_step g (ops.AddE unit from to attribute) =
    add_edge g (from, to) attribute (can_join g.vertices (from, to))
graph_step g (ops.DelE unit from to) = del_edge g (from, to) (finite.get g.edges (from, to))
graph_step g (ops.Vertex unit vertex) =
    answered (GraphOf g) (earlier (finite.get g.vertices vertex))
graph_step g (ops.Degree unit vertex) =
    answered (GraphOf g) (degree g vertex (finite.contains_key g.vertices vertex))
graph_step g _ = answered (GraphOf g) Nothing

-- An operation on another form of state does nothing, and is answered as if nothing was there.
abbrev pub step : State → Op → Step
step (MapOf m) op = map_step m op
step (QueueOf items) op = queue_step items op
step (GraphOf g) op = graph_step g op

-- what a range gives, of which its reply is the number; no other operation has a run
abbrev pub run_of : State → Op → Option Run
run_of (MapOf m) (ops.ORange unit from to most) = Some (range_of m from to most)
run_of _ _ = None

-- a range of no more pairs than a run has room for
abbrev pub IsShortOp : Op → Type 0
IsShortOp (ops.ORange unit from to most) = most ≤ MOST_PAIRS
IsShortOp _ = Unit {0}

-- ---- the unit of an operation
-- how many pairs a range may be asked for
abbrev pub can_range : ℕ → Bool
can_range most = nat_le 1 most && nat_le most MOST_PAIRS

abbrev pub range_aim : Bool → ℕ → Aim
range_aim true unit = aims.Unit kinds.Ordered unit
range_aim false unit = aims.Nowhere

-- where an operation belongs: to the unit that keeps its key, or to the one that it names
abbrev pub aim_of : Op → Aim
aim_of (ops.Put key value) = aims.Key key
aim_of (ops.Get key) = aims.Key key
aim_of (ops.Del key) = aims.Key key
aim_of (ops.Enq unit item) = aims.Unit kinds.Queue unit
aim_of (ops.Deq unit) = aims.Unit kinds.Queue unit
aim_of (ops.Len unit) = aims.Unit kinds.Queue unit
aim_of (ops.AddV unit vertex attribute) = aims.Unit kinds.Graph unit
aim_of (ops.DelV unit vertex) = aims.Unit kinds.Graph unit
aim_of (ops.AddE unit from to attribute) = aims.Unit kinds.Graph unit
aim_of (ops.DelE unit from to) = aims.Unit kinds.Graph unit
aim_of (ops.Vertex unit vertex) = aims.Unit kinds.Graph unit
aim_of (ops.Degree unit vertex) = aims.Unit kinds.Graph unit
aim_of (ops.OPut unit key value) = aims.Unit kinds.Ordered unit
aim_of (ops.OGet unit key) = aims.Unit kinds.Ordered unit
aim_of (ops.ODel unit key) = aims.Unit kinds.Ordered unit
aim_of (ops.OFloor unit key) = aims.Unit kinds.Ordered unit
aim_of (ops.ORank unit key) = aims.Unit kinds.Ordered unit
aim_of (ops.ORange unit from to most) = range_aim (can_range most) unit

abbrev pub unit_aimed : Shape → Aim → Option ℕ
unit_aimed s (aims.Key key) = unit_of_key s key
unit_aimed s (aims.Unit kind unit) = unit_named s kind unit
unit_aimed s aims.Nowhere = None

-- the unit that an operation belongs to, if there is one
abbrev pub unit_of_op : Shape → Op → Option ℕ
unit_of_op s op = unit_aimed s (aim_of op)
