-- The things that effects name are versions of those that their records hold.
use Rattle.std.proofs.Common.{◌≡◌, ℕ, Bool, true, false, cond, List, [], ◌∷◌, ◌++◌, map, refl, sym, ap, ◌∙◌, arith}
use Rattle.std.specs.Prelude.{◌&&◌, ◌==◌, Option, Some, None, slice_index}
use Rattle.std.specs.Ordering.{nat_cmp, eq_by_cmp}
use Rattle.std.specs.FinMap as finite
use Rattle.std.proofs.lemmas.Bool.Decides.{nat_tests}
use Rattle.mont_base.specs.declared.constants.TheConstants.{VERTEX_TAG, EDGE_TAG}
use Rattle.mont_base.specs.declared.effect.Effect.{Effect}
use Rattle.mont_base.specs.declared.effect.Effect.TheVariants.{Inserts, Replaces, Removes}
use Rattle.mont_base.specs.declared.effect.Thing.{Thing}
use Rattle.mont_base.specs.declared.effect.Thing.TheVariants.{Pair, Item, Vertex, Edge}
use Rattle.mont_base.specs.declared.kinds.UnitKind.{UnitKind}
use Rattle.mont_base.specs.declared.kinds.UnitKind.TheVariants as kinds
use Rattle.mont_base.specs.declared.operation.Op.{Op}
use Rattle.mont_base.specs.declared.operation.Op.TheVariants as ops
use Rattle.mont_base.specs.declared.record.Held.{Held}
use Rattle.mont_base.specs.Counting.{is_version_of}
use Rattle.mont_base.specs.Bodies.{pair_in, vertex_in, edge_in, is_vertex_body, is_edge_body, is_clean}
use Rattle.mont_base.specs.Layout.{code_of, same_kind, keeps_pairs}
use Rattle.mont_base.specs.State.{State, MapOf, QueueOf, GraphOf, is_state_of, Graph, Ends, Pairs, Key, Value, key_cmp, edge_cmp, step, set_effects, map_del, queue_deq, del_vertex, add_edge, del_edge, edge_thing, edges_at, can_join}
use Rattle.mont_base.specs.Structure.{names}
use Rattle.mont_base.specs.Texts.{IsText}
use Rattle.mont_base.specs.Versions.{object_of}
use Rattle.mont_laws.specs.Effects.{CarriesTexts, HasNameOf, IsBodyOf}
use Rattle.mont_laws.proofs.Bodies.{pair_back, vertex_back, edge_back, vertex_tag, edge_tag, no_vertex_tag}
use Rattle.mont_laws.proofs.Keys.{one_text, one_number, one_edge}
use Rattle.mont_laws.proofs.SameKind.{maps_no_queues, maps_no_graphs, graphs_no_queues}
use Rattle.structure_call.specs.CountedNumbers.{is_thing_of}

-- ---- what an operation names
abbrev pub HasTexts : Thing → Type 0
HasTexts (Pair key value) = IsText key × IsText value
HasTexts _ = Unit {0}

-- a thing that was there is one of the kind, and one that is set is of texts
abbrev pub Names : UnitKind → Effect → Type 0
Names kind (Inserts thing) = Unit {0}
Names kind (Replaces thing) = (is_thing_of kind thing ≡ true) × HasTexts thing
Names kind (Removes thing) = is_thing_of kind thing ≡ true

abbrev pub AllName : UnitKind → List Effect → Type 0
AllName kind [] = Unit {0}
AllName kind (e ∷ es) = Names kind e × AllName kind es

module _ (kind : UnitKind) where
  set_names : (there : Bool) (thing : Thing) → is_thing_of kind thing ≡ true → HasTexts thing → AllName kind (set_effects there thing)
  set_names true thing is texts = ((is, texts), tt)
  set_names false thing is texts = (tt, tt)

  map_del_names : (m : Pairs) (key : Key) (o : Option Value) → keeps_pairs kind ≡ true → AllName kind (map_del m key o).effects
  map_del_names m key None is = tt
  map_del_names m key (Some value) is = (is, tt)

  deq_names : (items : List ℕ) → same_kind kind kinds.Queue ≡ true → AllName kind (queue_deq items).effects
  deq_names [] is = tt
  deq_names (item ∷ items) is = (is, tt)

  edges_name : (es : List (Ends × ℕ)) (rest : List Effect) → same_kind kind kinds.Graph ≡ true → AllName kind rest
      → AllName kind (map (λ e. Removes (edge_thing e)) es ++ rest)
  edges_name [] rest is h = h
  edges_name (e ∷ es) rest is h = (is, edges_name es rest is h)

  del_vertex_names : (g : Graph) (vertex : ℕ) (o : Option ℕ) → same_kind kind kinds.Graph ≡ true
      → AllName kind (del_vertex g vertex o).effects
  del_vertex_names g vertex None is = tt
  del_vertex_names g vertex (Some attribute) is = edges_name (edges_at g vertex) (Removes (Vertex vertex attribute) ∷ []) is (is, tt)

  add_edge_names : (g : Graph) (e : Ends) (attribute : ℕ) (joins : Bool) → same_kind kind kinds.Graph ≡ true
      → AllName kind (add_edge g e attribute joins).effects
  add_edge_names g e attribute false is = tt
  add_edge_names g e attribute true is = set_names (finite.contains_key g.edges e) (edge_thing (e, attribute)) is tt

  del_edge_names : (g : Graph) (e : Ends) (o : Option ℕ) → same_kind kind kinds.Graph ≡ true → AllName kind (del_edge g e o).effects
  del_edge_names g e None is = tt
  del_edge_names g e (Some attribute) is = (is, tt)

  pub step_names : (state : State) (op : Op) → is_state_of kind state ≡ true → CarriesTexts op → AllName kind (step state op).effects
  step_names (MapOf m) (ops.Put key value) is texts = set_names (finite.contains_key m key) (Pair key value) is texts
  step_names (MapOf m) (ops.Del key) is texts = map_del_names m key (finite.get m key) is
  step_names (MapOf m) (ops.OPut unit key value) is texts = set_names (finite.contains_key m key) (Pair key value) is texts
  step_names (MapOf m) (ops.ODel unit key) is texts = map_del_names m key (finite.get m key) is
  step_names (MapOf m) _ is texts = tt
  step_names (QueueOf items) (ops.Enq unit item) is texts = (tt, tt)
  step_names (QueueOf items) (ops.Deq unit) is texts = deq_names items is
  step_names (QueueOf items) _ is texts = tt
  step_names (GraphOf g) (ops.AddV unit vertex attribute) is texts =
      set_names (finite.contains_key g.vertices vertex) (Vertex vertex attribute) is tt
  step_names (GraphOf g) (ops.DelV unit vertex) is texts = del_vertex_names g vertex (finite.get g.vertices vertex) is
  step_names (GraphOf g) (ops.AddE unit from to attribute) is texts =
      add_edge_names g (from, to) attribute (can_join g.vertices (from, to)) is
  step_names (GraphOf g) (ops.DelE unit from to) is texts = del_edge_names g (from, to) (finite.get g.edges (from, to)) is
  step_names (GraphOf g) _ is texts = tt

-- ---- what a body names
no_edge_tag : (body : List ℕ) → is_vertex_body body ≡ true → is_edge_body body ≡ false
no_edge_tag body e = by (slice_index body 0) e
  where
    by : (w : ℕ) → (w == VERTEX_TAG) ≡ true → (w == EDGE_TAG) ≡ false
    by w e = grind (arith, nat_tests)

no_vertex : (body : List ℕ) (x : Ends × ℕ) → edge_in body ≡ Some x → vertex_in body ≡ None
no_vertex body x e =
    ap (λ (t : Bool). cond (t && is_clean 3 body) (Some (slice_index body 1, slice_index body 2)) None)
    (no_vertex_tag body (edge_tag body x e))

no_edge : (body : List ℕ) (x : ℕ × ℕ) → vertex_in body ≡ Some x → edge_in body ≡ None
no_edge body x e =
    ap (λ (t : Bool). cond (t && is_clean 4 body) (Some ((slice_index body 1, slice_index body 2), slice_index body 3)) None)
    (no_edge_tag body (vertex_tag body x e))

-- a record holds what has the name of a thing
pub named_is : (records : List Held) (thing : Thing) (r : Held) → HasNameOf records thing r.body → is_version_of thing (object_of r) ≡ true
named_is records (Pair key value) r h = ap (names (eq_by_cmp key_cmp key)) h.1 ∙ (one_text key key).1 refl
named_is records (Item item) r h = refl
named_is records (Vertex vertex attribute) r h = ap (names (eq_by_cmp nat_cmp vertex)) h.1 ∙ (one_number vertex vertex).1 refl
named_is records (Edge from to attribute) r h = ap (names (eq_by_cmp edge_cmp (from, to))) h.1 ∙ (one_edge (from, to) (from, to)).1 refl

differ : (t : Bool) → t ≡ true → t ≡ false → ⊥
differ t e f = cc

-- the record that sets a thing has the name of the one that it replaces
pub same_name : (kind : UnitKind) (records : List Held) (thing set : Thing) (last w : Held) → is_thing_of kind thing ≡ true
    → is_thing_of kind set ≡ true → HasTexts set → HasNameOf records set last.body → IsBodyOf records set w.body
    → is_version_of thing (object_of last) ≡ is_version_of thing (object_of w)
same_name kind records (Item item) set last w d e texts named body = refl
same_name kind records (Pair key value) (Pair other new) last w d e texts named body =
    ap (names (eq_by_cmp key_cmp key)) named.1
    ∙ sym (ap (names (eq_by_cmp key_cmp key)) (ap pair_in body ∙ pair_back other new texts.0 texts.1))
same_name kind records (Vertex vertex attribute) (Vertex other new) last w d e texts named body =
    ap (names (eq_by_cmp nat_cmp vertex)) named.1
    ∙ sym (ap (names (eq_by_cmp nat_cmp vertex)) (ap vertex_in body ∙ vertex_back other new))
same_name kind records (Edge from to attribute) (Edge start end new) last w d e texts named body =
    ap (names (eq_by_cmp edge_cmp (from, to))) named.1
    ∙ sym (ap (names (eq_by_cmp edge_cmp (from, to))) (ap edge_in body ∙ edge_back (start, end) new))
same_name kind records (Vertex vertex attribute) (Edge start end new) last w d e texts named body =
    ap (names (eq_by_cmp nat_cmp vertex)) (no_vertex last.body ((start, end), named.0) named.1)
    ∙ sym (ap (names (eq_by_cmp nat_cmp vertex)) (no_vertex w.body ((start, end), new) (ap edge_in body ∙ edge_back (start, end) new)))
same_name kind records (Edge from to attribute) (Vertex other new) last w d e texts named body =
    ap (names (eq_by_cmp edge_cmp (from, to))) (no_edge last.body (other, named.0) named.1)
    ∙ sym (ap (names (eq_by_cmp edge_cmp (from, to))) (no_edge w.body (other, new) (ap vertex_in body ∙ vertex_back other new)))
same_name kind records (Pair key value) (Item item) last w d e texts named body = absurd (differ _ e (maps_no_queues (code_of kind) d))
same_name kind records (Pair key value) (Vertex other new) last w d e texts named body =
    absurd (differ _ e (maps_no_graphs (code_of kind) d))
same_name kind records (Pair key value) (Edge start end new) last w d e texts named body =
    absurd (differ _ e (maps_no_graphs (code_of kind) d))
same_name kind records (Vertex vertex attribute) (Pair other new) last w d e texts named body =
    absurd (differ _ d (maps_no_graphs (code_of kind) e))
same_name kind records (Edge from to attribute) (Pair other new) last w d e texts named body =
    absurd (differ _ d (maps_no_graphs (code_of kind) e))
same_name kind records (Vertex vertex attribute) (Item item) last w d e texts named body =
    absurd (differ _ e (graphs_no_queues (code_of kind) d))
same_name kind records (Edge from to attribute) (Item item) last w d e texts named body =
    absurd (differ _ e (graphs_no_queues (code_of kind) d))
