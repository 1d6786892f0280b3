-- What nodes tell of live records, and the changes that make the effects of an edit.
use Rattle.std.proofs.Common.{◌≡◌, ℕ, Bool, true, false, cond, List, [], ◌∷◌, ◌++◌, map, refl, sym, ap, ◌∙◌, subst, inl, inr, ◌⊎◌}
use Rattle.std.specs.Prelude.{All, Some, None, T}
use Rattle.std.specs.declared.cmp.Ordering.{Ordering}
use Rattle.std.specs.declared.cmp.Ordering.TheVariants.{Less, Equal, Greater}
use Rattle.std.specs.Ordering.{eq_by_cmp, is_lt, is_eq}
use Rattle.std.specs.FinMap as finite
use Rattle.std.specs.FinMap.Entries.{find, is_sorted, below_all}
use Rattle.std.specs.List.{AllZip, Contains}
use Rattle.mont_base.specs.declared.effect.Effect.{Effect}
use Rattle.mont_base.specs.declared.effect.Effect.TheVariants.{Removes}
use Rattle.mont_base.specs.declared.kinds.UnitKind.TheVariants as unit_kinds
use Rattle.mont_base.specs.declared.operation.Op.{Op}
use Rattle.mont_base.specs.declared.operation.Reply.{Reply}
use Rattle.mont_base.specs.declared.record.Change.{Change}
use Rattle.mont_base.specs.declared.record.Held.{Held}
use Rattle.mont_base.specs.Bodies.{vertex_in, edge_in}
use Rattle.mont_base.specs.Layout.{Shape, kind_of}
use Rattle.mont_base.specs.State.{Ends, GraphOf, edge_cmp, touches, graph_step}
use Rattle.mont_laws.specs.Effects.{IsOpOf}
use Rattle.mont_laws.specs.Records.{live_of}
use Rattle.mont_laws.specs.Structures.{Part, AtVertex, AtEdge, part_for, HasStructure}
use Rattle.mont_laws.proofs.SameKind.{has_kind}
use Rattle.mont_laws.proofs.Found.{IsVertexPart, IsEdgePart, part_cases}
use Rattle.mont_laws.proofs.Keys.{one_edge}
use Rattle.mont_laws.proofs.Members.{no_element, first_element, later_element, element_cases, kept_element, all_elements}
use Rattle.mont_laws.proofs.Rows.{first, second}
use Rattle.slots.specs.Books.{BooksShown, RegionShown}
use Rattle.slots.specs.WrittenRecords.{IsLiveAt, NamesLive}
use Rattle.structure_call.proofs.ChangeNumbers.{all_live}
use Rattle.structure_call.proofs.KeptPlans.{structure_kept}
use Rattle.structure_call.specs.Planning.{NamesThing, IsBodyNext, Makes, IsPlan}
use Rattle.pgraph.specs.declared.graph_edit.GraphEdit.{GraphEdit}
use Rattle.pgraph.specs.declared.graph_edit.GraphEdit.TheVariants.{Keep, Set, Remove}
use Rattle.pgraph.specs.declared.node.Node.{Node}
use Rattle.pgraph.specs.GraphCall.{AreLiveEdges}
use Rattle.pgraph.specs.GraphEdit.{Fits, nodes_with, thing_of, edge_effect, effects_of, body_of, removal, edge_removal, changes_of}
use Rattle.pgraph.specs.GraphIndex.{Nodes, part_of, nodes_at, graph_in}
use Rattle.pgraph.specs.LiveNodes.{IsNodeOf, HoldsLive}

-- ---- the part that a body has
abbrev pub at_vertex : Part → ℕ
at_vertex (AtVertex v) = v
at_vertex (AtEdge e) = 0

abbrev pub at_edge : Part → Ends
at_edge (AtVertex v) = (0, 0)
at_edge (AtEdge e) = e

again : {A B : Type 0} (p : A × B) → (p.0, p.1) ≡ p
again (x, y) = refl

part_vertex : (body : List ℕ) (v a : ℕ) → part_for body ≡ Some (AtVertex v, a) → vertex_in body ≡ Some (v, a)
part_vertex body v a e = by (part_cases body (AtVertex v, a) e)
  where
    by : IsVertexPart body (AtVertex v, a) ⊎ IsEdgePart body (AtVertex v, a) → vertex_in body ≡ Some (v, a)
    by (inl p) = p.read ∙ sym (ap (λ (d : Part × ℕ). Some (at_vertex d.0, d.1)) p.is ∙ ap (λ (x : ℕ × ℕ). Some x) (again p.vertex))
    by (inr p) = let clash : AtVertex v ≡ AtEdge p.edge.0 = ap (λ (d : Part × ℕ). d.0) p.is in absurd (cc)

part_edge : (body : List ℕ) (e : Ends) (a : ℕ) → part_for body ≡ Some (AtEdge e, a) → edge_in body ≡ Some (e, a)
part_edge body e a f = by (part_cases body (AtEdge e, a) f)
  where
    by : IsVertexPart body (AtEdge e, a) ⊎ IsEdgePart body (AtEdge e, a) → edge_in body ≡ Some (e, a)
    by (inl p) = let clash : AtEdge e ≡ AtVertex p.vertex.0 = ap (λ (d : Part × ℕ). d.0) p.is in absurd (cc)
    by (inr p) = p.read ∙ sym (ap (λ (d : Part × ℕ). Some (at_edge d.0, d.1)) p.is ∙ ap (λ (x : Ends × ℕ). Some x) (again p.edge))

-- ---- one node
module _ (records : List Held) where
  pub named : (part : Part) (node : Node) (a : ℕ) → IsNodeOf records part node
      → NamesThing records (thing_of part a) node.slot node.identity
  named (AtVertex v) node a p = record {
    live = p.live;
    is = p.is;
    in_slot = p.in_slot;
    named = (node.attribute, part_vertex p.live.body v node.attribute p.holds);
  }
  named (AtEdge e) node a p = record {
    live = p.live;
    is = p.is;
    in_slot = p.in_slot;
    named = (node.attribute, part_edge p.live.body e node.attribute p.holds);
  }

  live_at : (part : Part) (node : Node) → IsNodeOf records part node → IsLiveAt records node.slot node.identity
  live_at part node p = record { live = p.live; is = p.is; in_slot = p.in_slot }

  -- where the same are live it is a node still
  pub node_kept : (olds : List Held) → ((i : ℕ) → live_of i records ≡ live_of i olds) → (part : Part) (node : Node)
      → IsNodeOf olds part node → IsNodeOf records part node
  node_kept olds live part node p = record { live = p.live; is = live node.identity ∙ p.is; in_slot = p.in_slot; holds = p.holds }

body_next : (b : BooksShown) (records : List Held) (part : Part) (a : ℕ) → IsBodyNext b records (thing_of part a) (body_of part a)
body_next b records (AtVertex v) a = refl
body_next b records (AtEdge e) a = refl

-- ---- the entries of a map of edges
below_less : (e : Ends) (es : List (Ends × Node)) (x : Ends × Node) → T (below_all edge_cmp e es) → Contains es x
    → T (is_lt (edge_cmp e x.0))
below_less e [] x h c = absurd (no_element x c)
below_less e (d ∷ es) x h c = by (element_cases d es x c) (λ b. below_less e es x (second _ _ h) b)
  where
    by : (x ≡ d) ⊎ Contains es x → (Contains es x → T (is_lt (edge_cmp e x.0))) → T (is_lt (edge_cmp e x.0))
    by (inl is) rest = subst (λ (y : Ends × Node). T (is_lt (edge_cmp e y.0))) (sym is) (first _ _ h)
    by (inr b) rest = rest b

not_less : (e d : Ends) → d ≡ e → T (is_lt (edge_cmp e d)) → ⊥
not_less e d is h = by (edge_cmp e d) ((one_edge e d).1 (sym is)) h
  where
    by : (o : Ordering) → is_eq o ≡ true → T (is_lt o) → ⊥
    by Less f h = absurd (cc)
    by Equal f h = h
    by Greater f h = h

entry_found : (es : List (Ends × Node)) → T (is_sorted edge_cmp es) → (x : Ends × Node) → Contains es x → find edge_cmp x.0 es ≡ Some x.1
entry_found [] sorted x c = absurd (no_element x c)
entry_found (e ∷ es) sorted x c = by (eq_by_cmp edge_cmp x.0 e.0) refl (element_cases e es x c)
    (λ d. entry_found es (second _ _ sorted) x d)
  where
    by : (t : Bool) → eq_by_cmp edge_cmp x.0 e.0 ≡ t → (x ≡ e) ⊎ Contains es x → (Contains es x → find edge_cmp x.0 es ≡ Some x.1)
        → cond t (Some e.1) (find edge_cmp x.0 es) ≡ Some x.1
    by true f (inl is) rest = ap (λ (y : Ends × Node). Some y.1) (sym is)
    by true f (inr d) rest = absurd (not_less e.0 x.0 ((one_edge x.0 e.0).0 f) (below_less e.0 es x (first _ _ sorted) d))
    by false f (inl is) rest =
        let g : eq_by_cmp edge_cmp x.0 e.0 ≡ true = (one_edge x.0 e.0).1 (ap (λ (y : Ends × Node). y.0) is) in absurd (cc)
    by false f (inr d) rest = rest d

-- ---- the edges at a vertex
module _ (nodes : Nodes) where
  pub edge_of : (v : ℕ) (e : Ends × Node) → Contains (nodes_at nodes v) e → (finite.get nodes.edges e.0 ≡ Some e.1) × (touches v e.0 ≡ true)
  edge_of v e c =
      let k = kept_element (λ (e : Ends × Node). touches v e.0) e (finite.entries nodes.edges) c in (
        finite.get-entries nodes.edges e.0 ∙ entry_found (finite.entries nodes.edges) (finite.entries_sorted nodes.edges) e k.0,
        k.1,
      )

-- ---- nodes of what is live
module _ (records : List Held) (nodes : Nodes) (holds : HoldsLive records nodes) where
  pub with_node_of : (part : Part) (e : Ends × Node) → Contains (nodes_with nodes part) e → IsNodeOf records (AtEdge e.0) e.1
  with_node_of (AtVertex v) e c = holds.places (AtEdge e.0) e.1 (edge_of nodes v e c).0
  with_node_of (AtEdge d) e c = absurd (no_element e c)

  pub edges_live : (part : Part) → AreLiveEdges records (nodes_with nodes part)
  edges_live part = all_elements (λ (e : Ends × Node). IsLiveAt records e.1.slot e.1.identity) (nodes_with nodes part)
      (λ e c. live_at records (AtEdge e.0) e.1 (with_node_of part e c))

  edges_make : (b : BooksShown) (es : List (Ends × Node)) → ((e : Ends × Node) → Contains es e → IsNodeOf records (AtEdge e.0) e.1)
      → (ds : List Effect) (cs : List Change) → AllZip (Makes b records) ds cs
      → AllZip (Makes b records) (map edge_effect es ++ ds) (map edge_removal es ++ cs)
  edges_make b [] h ds cs z = z
  edges_make b (e ∷ es) h ds cs z = (
    named records (AtEdge e.0) e.1 e.1.attribute (h e (first_element e es)),
    edges_make b es (λ d c. h d (later_element e es d c)) ds cs z,
  )

  pub edit_makes : (b : BooksShown) (edit : GraphEdit) → Fits nodes edit
      → AllZip (Makes b records) (effects_of nodes edit) (changes_of nodes edit)
  edit_makes b Keep fits = tt
  edit_makes b (Set name a None) fits = (body_next b records (part_of name) a, tt)
  edit_makes b (Set name a (Some n)) fits = (
    (named records (part_of name) n a (holds.places (part_of name) n (sym fits.0)), body_next b records (part_of name) a),
    tt,
  )
  edit_makes b (Remove name n) fits = edges_make b (nodes_with nodes (part_of name)) (with_node_of (part_of name))
      (Removes (thing_of (part_of name) n.attribute) ∷ []) (removal n ∷ [])
      (named records (part_of name) n n.attribute (holds.places (part_of name) n fits), tt)

  pub edit_live : (b : BooksShown) (edit : GraphEdit) → Fits nodes edit → All (NamesLive records) (changes_of nodes edit)
  edit_live b edit fits = all_live b records (effects_of nodes edit) (changes_of nodes edit) (edit_makes b edit fits)

  pub structure_is : (s : Shape) (u : ℕ) → kind_of s u ≡ Some unit_kinds.Graph → HasStructure s u records (GraphOf (graph_in nodes))
  structure_is s u kind = record {
    of_unit = has_kind (kind_of s u) unit_kinds.Graph (GraphOf (graph_in nodes)) kind refl;
    things = holds.graph;
  }

  -- where the same are live
  pub holds_kept : (s : Shape) (u : ℕ) → kind_of s u ≡ Some unit_kinds.Graph → (news : List Held)
      → ((i : ℕ) → live_of i news ≡ live_of i records) → HoldsLive news nodes
  holds_kept s u kind news live = record {
    graph = (structure_kept records news live s u (GraphOf (graph_in nodes)) (structure_is s u kind)).things;
    places = λ part node e. node_kept news records live part node (holds.places part node e);
  }

-- ---- the plan of a call
module _ (r : RegionShown) (nodes : Nodes) (holds : HoldsLive r.seat.known.part.records nodes)
    (kind : kind_of r.books.layout r.books.unit ≡ Some unit_kinds.Graph) (op : Op) (of_unit : IsOpOf r.books.layout r.books.unit op)
    (reply : Reply) (edit : GraphEdit) (replies : reply ≡ (graph_step (graph_in nodes) op).reply)
    (effects : effects_of nodes edit ≡ (graph_step (graph_in nodes) op).effects) (fits : Fits nodes edit) where
  pub edit_plan : IsPlan r op reply (changes_of nodes edit)
  edit_plan = record {
    of_unit = of_unit;
    state = GraphOf (graph_in nodes);
    shown = structure_is r.seat.known.part.records nodes holds r.books.layout r.books.unit kind;
    replies = replies;
    makes = subst (λ (es : List Effect). AllZip (Makes r.books r.seat.known.part.records) es (changes_of nodes edit)) effects
        (edit_makes r.seat.known.part.records nodes holds r.books edit fits);
  }
