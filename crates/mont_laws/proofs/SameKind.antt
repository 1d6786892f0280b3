-- An operation leaves the form of a state, and with it the kinds whose state it may be.
use Rattle.std.proofs.Common.{◌≡◌, ℕ, ◌==◌, List, [], ◌∷◌, refl, sym, ap, ◌∙◌, arith, Bool, true, false}
use Rattle.std.specs.Prelude.{Option, Some, None, ◌||◌}
use Rattle.std.specs.FinMap as finite
use Rattle.std.proofs.lemmas.Bool.Decides.{nat_tests}
use Rattle.mont_base.specs.declared.kinds.UnitKind.{UnitKind}
use Rattle.mont_base.specs.declared.kinds.UnitKind.TheVariants as kinds
use Rattle.mont_base.specs.declared.operation.Op.{Op}
use Rattle.mont_base.specs.declared.operation.Op.TheVariants as ops
use Rattle.mont_base.specs.Layout.{code_of, is_of_kind}
use Rattle.mont_base.specs.State.{State, MapOf, QueueOf, GraphOf, is_state_of, is_kind_of, Key, Value, Pairs, Graph, Ends, can_join, map_del, map_step, queue_deq, queue_step, del_vertex, add_edge, del_edge, graph_step, step}
use Rattle.mont_base.proofs.KindTable.{one_kind}

module _ (kind : UnitKind) where
  del_kind : (m : Pairs) (key : Key) (o : Option Value) → is_state_of kind (map_del m key o).state ≡ is_state_of kind (MapOf m)
  del_kind m key None = refl
  del_kind m key (Some value) = refl

  map_kind : (m : Pairs) (op : Op) → is_state_of kind (map_step m op).state ≡ is_state_of kind (MapOf m)
  map_kind m (ops.Put key value) = refl
  map_kind m (ops.Del key) = del_kind m key (finite.get m key)
  map_kind m (ops.OPut unit key value) = refl
  map_kind m (ops.ODel unit key) = del_kind m key (finite.get m key)
  map_kind m _ = refl

  deq_kind : (items : List ℕ) → is_state_of kind (queue_deq items).state ≡ is_state_of kind (QueueOf items)
  deq_kind [] = refl
  deq_kind (item ∷ items) = refl

  queue_kind : (items : List ℕ) (op : Op) → is_state_of kind (queue_step items op).state ≡ is_state_of kind (QueueOf items)
  queue_kind items (ops.Deq unit) = deq_kind items
  queue_kind items _ = refl

  del_vertex_kind : (g : Graph) (vertex : ℕ) (o : Option ℕ) → is_state_of kind (del_vertex g vertex o).state ≡ is_state_of kind (GraphOf g)
  del_vertex_kind g vertex None = refl
  del_vertex_kind g vertex (Some attribute) = refl

  add_edge_kind : (g : Graph) (e : Ends) (attribute : ℕ) (t : Bool)
      → is_state_of kind (add_edge g e attribute t).state ≡ is_state_of kind (GraphOf g)
  add_edge_kind g e attribute true = refl
  add_edge_kind g e attribute false = refl

  del_edge_kind : (g : Graph) (e : Ends) (o : Option ℕ) → is_state_of kind (del_edge g e o).state ≡ is_state_of kind (GraphOf g)
  del_edge_kind g e None = refl
  del_edge_kind g e (Some attribute) = refl

  graph_kind : (g : Graph) (op : Op) → is_state_of kind (graph_step g op).state ≡ is_state_of kind (GraphOf g)
  graph_kind g (ops.DelV unit vertex) = del_vertex_kind g vertex (finite.get g.vertices vertex)
  graph_kind g (ops.AddE unit from to attribute) = add_edge_kind g (from, to) attribute (can_join g.vertices (from, to))
  graph_kind g (ops.DelE unit from to) = del_edge_kind g (from, to) (finite.get g.edges (from, to))
  graph_kind g _ = refl

  pub same_kind_after : (state : State) (op : Op) → is_state_of kind (step state op).state ≡ is_state_of kind state
  same_kind_after (MapOf m) op = map_kind m op
  same_kind_after (QueueOf items) op = queue_kind items op
  same_kind_after (GraphOf g) op = graph_kind g op

-- a unit may have the state after an operation where it may have the one before
pub kind_kept : (kind : Option UnitKind) (state : State) (op : Op) → is_kind_of kind (step state op).state ≡ is_kind_of kind state
kind_kept None state op = refl
kind_kept (Some kind) state op = same_kind_after kind state op

-- ---- the kind of a unit that may have a state
pub the_kind : (o : Option UnitKind) (state : State) → is_kind_of o state ≡ true
    → (kind : UnitKind) × (o ≡ Some kind) × (is_state_of kind state ≡ true)
the_kind None state e = absurd (cc)
the_kind (Some kind) state e = (kind, refl, e)

pub has_kind : (o : Option UnitKind) (kind : UnitKind) (state : State) → o ≡ Some kind → is_state_of kind state ≡ true
    → is_kind_of o state ≡ true
has_kind o kind state e is = ap (λ (p : Option UnitKind). is_kind_of p state) e ∙ is

pub state_fits : (o : Option UnitKind) (kind : UnitKind) (state : State) → o ≡ Some kind → is_kind_of o state ≡ true
    → is_state_of kind state ≡ true
state_fits o kind state e is = ap (λ (p : Option UnitKind). is_kind_of p state) (sym e) ∙ is

pub of_one_kind : (o : Option UnitKind) (kind : UnitKind) → is_of_kind o kind ≡ true → o ≡ Some kind
of_one_kind None kind e = absurd (cc)
of_one_kind (Some k) kind e = ap Some (one_kind k kind e)

-- no kind has states of two forms
pub maps_no_queues : (code : ℕ) → ((code == 1) || (code == 4)) ≡ true → (code == 2) ≡ false
maps_no_queues code e = grind (arith, nat_tests)

pub maps_no_graphs : (code : ℕ) → ((code == 1) || (code == 4)) ≡ true → (code == 3) ≡ false
maps_no_graphs code e = grind (arith, nat_tests)

pub graphs_no_queues : (code : ℕ) → (code == 3) ≡ true → (code == 2) ≡ false
graphs_no_queues code e = grind (arith, nat_tests)

-- a unit is a queue where its state is one
pub is_queue_by_state : (o : Option UnitKind) (state : State) → is_kind_of o state ≡ true
    → is_of_kind o kinds.Queue ≡ is_state_of kinds.Queue state
is_queue_by_state None state e = absurd (cc)
is_queue_by_state (Some kind) (MapOf m) e = maps_no_queues (code_of kind) e
is_queue_by_state (Some kind) (QueueOf items) e = e
is_queue_by_state (Some kind) (GraphOf g) e = graphs_no_queues (code_of kind) e
