-- The graph and the nodes after an edit.
use Rattle.std.proofs.Common.{◌≡◌, ℕ, ◌==◌, Bool, true, false, cond, refl, sym, ap, ◌∙◌, subst, arith}
use Rattle.std.specs.Prelude.{◌≢◌, Option, Some, None, is_some, IsSome, option_map, ◌&&◌, ◌||◌, not}
use Rattle.std.specs.declared.cmp.Ordering.{Ordering}
use Rattle.std.specs.Cmp.{IsTotalOrder, nat_cmp_total}
use Rattle.std.specs.Ordering.{nat_cmp, eq_by_cmp}
use Rattle.std.specs.FinMap as finite
use Rattle.std.specs.List.{Contains}
use Rattle.std.proofs.lemmas.Bool.Decides.{nat_tests}
use Rattle.mont_base.specs.declared.record.Held.{Held}
use Rattle.mont_base.specs.State.{Ends, Graph, Vertices, Edges, edge_cmp, touches, can_join}
use Rattle.mont_laws.specs.Structures.{Part, AtVertex, AtEdge, HasEnds}
use Rattle.mont_laws.proofs.Keys.{one_number, one_edge, edges_total, edges_exact, insert_update, remove_update, both_true}
use Rattle.mont_laws.proofs.Members.{no_element}
use Rattle.mont_laws.proofs.Parts.{same_part, one_part}
use Rattle.pgraph.specs.declared.graph_edit.GraphEdit.{GraphEdit}
use Rattle.pgraph.specs.declared.graph_edit.GraphEdit.TheVariants.{Keep, Set, Remove}
use Rattle.pgraph.specs.declared.node.Node.{Node}
use Rattle.pgraph.specs.GraphCall.{HasNode, restored}
use Rattle.pgraph.specs.GraphEdit.{Fits, nodes_with, prepared, unwritten, node_by, nodes_behind, with_part, without_part, graph_behind}
use Rattle.pgraph.specs.GraphIndex.{Nodes, node_of, part_of, with_node, without, attributes, graph_in}
use Rattle.pgraph.proofs.Attributes.{get_attribute, vertex_there, edge_there}
use Rattle.pgraph.proofs.NodeFacts.{at_vertex, at_edge, edge_of}
use Rattle.pgraph.proofs.NodeMaps.{nodes_same}

abbrev attribute : Node → ℕ
attribute n = n.attribute

-- ---- one map
module _ {K : Type 0} {R : K → K → Ordering} (order : IsTotalOrder R) (exact : finite.IsAntisymmetric R) (m : finite.FinMap R Node) where
  get_with : (k : K) (x : Node) (q : K) → finite.get (finite.insert m k x) q ≡ cond (eq_by_cmp R k q) (Some x) (finite.get m q)
  get_with k x q = ap (λ (f : K → Option Node). f q) (sym (insert_update order exact m k x))

  get_without : (k q : K) → finite.get (finite.remove m k) q ≡ cond (eq_by_cmp R k q) None (finite.get m q)
  get_without k q = ap (λ (f : K → Option Node). f q) (sym (remove_update order exact m k))

  get_among : (p : K → Bool) (q : K) → finite.get (finite.retain_keys m p) q ≡ cond (p q) (finite.get m q) None
  get_among p q = finite.get-retain_keys m p q (λ e is. ap p (sym (exact q e is)))

  attributes_with : (k : K) (x : Node) → attributes (finite.insert m k x) ≡ finite.insert (attributes m) k x.attribute
  attributes_with k x = finite.same_map order exact _ _ (λ q. get_attribute order exact (finite.insert m k x) q
      ∙ ap (option_map attribute) (get_with k x q) ∙ by (eq_by_cmp R k q) (finite.get m q)
      ∙ ap (cond (eq_by_cmp R k q) (Some x.attribute)) (sym (get_attribute order exact m q))
      ∙ ap (λ (f : K → Option ℕ). f q) (insert_update order exact (attributes m) k x.attribute))
    where
      by : (t : Bool) (o : Option Node)
          → option_map attribute (cond t (Some x) o) ≡ cond t (Some x.attribute) (option_map attribute o)
      by true o = refl
      by false o = refl

  attributes_without : (k : K) → attributes (finite.remove m k) ≡ finite.remove (attributes m) k
  attributes_without k = finite.same_map order exact _ _ (λ q. get_attribute order exact (finite.remove m k) q
      ∙ ap (option_map attribute) (get_without k q) ∙ by (eq_by_cmp R k q) (finite.get m q)
      ∙ ap (cond (eq_by_cmp R k q) None) (sym (get_attribute order exact m q))
      ∙ ap (λ (f : K → Option ℕ). f q) (remove_update order exact (attributes m) k))
    where
      by : (t : Bool) (o : Option Node) → option_map attribute (cond t None o) ≡ cond t None (option_map attribute o)
      by true o = refl
      by false o = refl

  attributes_among : (p : K → Bool) → attributes (finite.retain_keys m p) ≡ finite.retain_keys (attributes m) p
  attributes_among p = finite.same_map order exact _ _ (λ q. get_attribute order exact (finite.retain_keys m p) q
      ∙ ap (option_map attribute) (get_among p q) ∙ by (p q) (finite.get m q)
      ∙ ap (λ (o : Option ℕ). cond (p q) o None) (sym (get_attribute order exact m q))
      ∙ sym (finite.get-retain_keys (attributes m) p q (λ e is. ap p (sym (exact q e is)))))
    where
      by : (t : Bool) (o : Option Node) → option_map attribute (cond t o None) ≡ cond t (option_map attribute o) None
      by true o = refl
      by false o = refl

  -- what comes in twice stands as it came last
  with_again : (k : K) (x y : Node) → finite.insert (finite.insert m k x) k y ≡ finite.insert m k y
  with_again k x y = finite.same_map order exact _ _ (λ q. finite.get-insert order (finite.insert m k x) k y q
      ∙ ap (cond (eq_by_cmp R q k) (Some y)) (finite.get-insert order m k x q) ∙ by (eq_by_cmp R q k) (finite.get m q)
      ∙ sym (finite.get-insert order m k y q))
    where
      by : (t : Bool) (o : Option Node) → cond t (Some y) (cond t (Some x) o) ≡ cond t (Some y) o
      by true o = refl
      by false o = refl

  -- what comes in and goes was never there
  came_and_went : (one : (a b : K) → eq_by_cmp R a b ≡ true → a ≡ b) (k : K) (x : Node) → finite.get m k ≡ None
      → finite.remove (finite.insert m k x) k ≡ m
  came_and_went one k x none = finite.same_map order exact _ _ (λ q. finite.get-remove order (finite.insert m k x) k q
      ∙ ap (cond (eq_by_cmp R q k) None) (finite.get-insert order m k x q) ∙ by q (eq_by_cmp R q k) refl)
    where
      by : (q : K) (t : Bool) → eq_by_cmp R q k ≡ t → cond t None (cond t (Some x) (finite.get m q)) ≡ finite.get m q
      by q true e = sym (ap (finite.get m) (one q k e) ∙ none)
      by q false e = refl

graph_same_maps : (vs ws : Vertices) (es fs : Edges) → vs ≡ ws → es ≡ fs
    → ◌≡◌ {A = Graph} (record { vertices = vs; edges = es }) (record { vertices = ws; edges = fs })
graph_same_maps vs ws es fs p q = λ i. record { vertices = p i; edges = q i }

abbrev numbers_exact : finite.IsAntisymmetric nat_cmp
numbers_exact = finite.nat_cmp-IsAntisymmetric

neither : (a b : Bool) → not (a || b) ≡ true → (a ≡ false) × (b ≡ false)
neither true b e = absurd (cc)
neither false true e = absurd (cc)
neither false false e = (refl, refl)

module _ (nodes : Nodes) where
  -- ---- the graph of the nodes after an edit
  graph_with : (part : Part) (x : Node) → graph_in (with_node nodes part x) ≡ with_part (graph_in nodes) part x.attribute
  graph_with (AtVertex v) x = graph_same_maps _ _ _ _ (attributes_with nat_cmp_total numbers_exact nodes.vertices v x) refl
  graph_with (AtEdge e) x = graph_same_maps _ _ _ _ refl (attributes_with edges_total edges_exact nodes.edges e x)

  pub graph_without : (part : Part) → graph_in (without nodes part) ≡ without_part (graph_in nodes) part
  graph_without (AtVertex v) = graph_same_maps _ _ _ _ (attributes_without nat_cmp_total numbers_exact nodes.vertices v)
      (attributes_among edges_total edges_exact nodes.edges (λ e. not (touches v e)))
  graph_without (AtEdge e) = graph_same_maps _ _ _ _ refl (attributes_without edges_total edges_exact nodes.edges e)

  pub graph_is : (edit : GraphEdit) (w : Held) → graph_in (nodes_behind nodes edit (Some w)) ≡ graph_behind (graph_in nodes) edit
  graph_is Keep w = refl
  graph_is (Set name a was) w = graph_with (part_of name) (node_by a w)
  graph_is (Remove name node) w = graph_without (part_of name)

  -- ---- nodes after an edit
  pub node_with : (part : Part) (x : Node) (t : Part) → node_of (with_node nodes part x) t
      ≡ cond (same_part part t) (Some x) (node_of nodes t)
  node_with (AtVertex v) x (AtVertex w) = get_with nat_cmp_total numbers_exact nodes.vertices v x w
  node_with (AtVertex v) x (AtEdge e) = refl
  node_with (AtEdge d) x (AtVertex w) = refl
  node_with (AtEdge d) x (AtEdge e) = get_with edges_total edges_exact nodes.edges d x e

  -- a node that is left was there, and isn't of what went
  pub record IsLeft (part t : Part) (m : Node) : Type 0 where
    pub was : node_of nodes t ≡ Some m
    pub other : t ≢ part
    pub no_edge : (e : Ends × Node) → Contains (nodes_with nodes part) e → t ≢ AtEdge e.0

  pub is_left : (part t : Part) (m : Node) → node_of (without nodes part) t ≡ Some m → IsLeft part t m
  is_left (AtVertex v) (AtVertex w) m h =
      by (eq_by_cmp nat_cmp v w) refl (sym (get_without nat_cmp_total numbers_exact nodes.vertices v w) ∙ h)
    where
      by : (t : Bool) → eq_by_cmp nat_cmp v w ≡ t → cond t None (finite.get nodes.vertices w) ≡ Some m → IsLeft (AtVertex v) (AtVertex w) m
      by true e f = absurd (cc)
      by false e f = record {
        was = f;
        other = λ is. let same : v ≡ w = sym (ap at_vertex is) in
            let g : eq_by_cmp nat_cmp v w ≡ true = (one_number v w).1 same in absurd (cc);
        no_edge = λ d c is. absurd (cc);
      }
  is_left (AtVertex v) (AtEdge e) m h =
      by (touches v e) refl (sym (get_among edges_total edges_exact nodes.edges (λ e. not (touches v e)) e) ∙ h)
    where
      by : (t : Bool) → touches v e ≡ t → cond (not t) (finite.get nodes.edges e) None ≡ Some m → IsLeft (AtVertex v) (AtEdge e) m
      by true f g = absurd (cc)
      by false f g = record {
        was = g;
        other = λ is. absurd (cc);
        no_edge = λ d c is. let same : e ≡ d.0 = ap at_edge is in
            let hit : touches v e ≡ true = ap (touches v) same ∙ (edge_of nodes v d c).1 in absurd (cc);
      }
  is_left (AtEdge d) (AtVertex w) m h = record { was = h; other = λ is. absurd (cc); no_edge = λ e c is. absurd (no_element e c) }
  is_left (AtEdge d) (AtEdge e) m h =
      by (eq_by_cmp edge_cmp d e) refl (sym (get_without edges_total edges_exact nodes.edges d e) ∙ h)
    where
      by : (t : Bool) → eq_by_cmp edge_cmp d e ≡ t → cond t None (finite.get nodes.edges e) ≡ Some m → IsLeft (AtEdge d) (AtEdge e) m
      by true f g = absurd (cc)
      by false f g = record {
        was = g;
        other = λ is. let same : d ≡ e = sym (ap at_edge is) in
            let hit : eq_by_cmp edge_cmp d e ≡ true = (one_edge d e).1 same in absurd (cc);
        no_edge = λ x c is. absurd (no_element x c);
      }

  -- ---- the index before the changes
  again : (part : Part) (x y : Node) → with_node (with_node nodes part x) part y ≡ with_node nodes part y
  again (AtVertex v) x y = nodes_same _ _ (with_again nat_cmp_total numbers_exact nodes.vertices v x y) refl
  again (AtEdge e) x y = nodes_same _ _ refl (with_again edges_total edges_exact nodes.edges e x y)

  pub behind_prepared : (edit : GraphEdit) (w : Held)
      → nodes_behind (prepared nodes edit) edit (Some w) ≡ nodes_behind nodes edit (Some w)
  behind_prepared Keep w = refl
  behind_prepared (Set name a None) w = again (part_of name) (unwritten a) (node_by a w)
  behind_prepared (Set name a (Some n)) w = refl
  behind_prepared (Remove name n) w = refl

  -- an edge that is there doesn't touch a vertex that isn't
  no_edge_there : HasEnds (graph_in nodes) → (v : ℕ) → finite.get nodes.vertices v ≡ None → (e : Ends)
      → finite.contains_key nodes.edges e ≡ true → touches v e ≡ false
  no_edge_there ends v none e there = by (e.0 == v) refl (e.1 == v) refl
    where
      joined : can_join (graph_in nodes).vertices e ≡ true
      joined = ends e (edge_there nodes e ∙ there)

      both : (finite.contains_key (graph_in nodes).vertices e.0 && finite.contains_key (graph_in nodes).vertices e.1) ≡ true
      both = (both_true (not (e.0 == e.1)) _ joined).1

      absent : (w : ℕ) → finite.contains_key (graph_in nodes).vertices w ≡ true → (w == v) ≡ true → ⊥
      absent w has is = let same : w ≡ v = grind (arith, nat_tests) in
          let no : is_some (finite.get nodes.vertices w) ≡ false = ap (λ u. is_some (finite.get nodes.vertices u)) same ∙ ap is_some none in
          let yes : is_some (finite.get nodes.vertices w) ≡ true = sym (vertex_there nodes w) ∙ has in
          absurd (cc)

      by : (s : Bool) → (e.0 == v) ≡ s → (t : Bool) → (e.1 == v) ≡ t → (s || t) ≡ false
      by true f t g = absurd (absent e.0 (both_true _ _ both).0 f)
      by false f true g = absurd (absent e.1 (both_true _ _ both).1 g)
      by false f false g = refl

  edges_stay : HasEnds (graph_in nodes) → (v : ℕ) → finite.get nodes.vertices v ≡ None
      → finite.retain_keys nodes.edges (λ e. not (touches v e)) ≡ nodes.edges
  edges_stay ends v none = finite.same_map edges_total edges_exact _ _ (λ e.
      get_among edges_total edges_exact nodes.edges (λ e. not (touches v e)) e
      ∙ by e (finite.get nodes.edges e) refl (touches v e) refl)
    where
      by : (e : Ends) (o : Option Node) → finite.get nodes.edges e ≡ o → (t : Bool) → touches v e ≡ t → cond (not t) o None ≡ o
      by e None f true g = refl
      by e None f false g = refl
      by e (Some n) f true g = let no = no_edge_there ends v none e (ap is_some f) in absurd (cc)
      by e (Some n) f false g = refl

  gone_again : HasEnds (graph_in nodes) → (part : Part) (x : Node) → node_of nodes part ≡ None
      → without (with_node nodes part x) part ≡ nodes
  gone_again ends (AtVertex v) x none = nodes_same _ _
      (came_and_went nat_cmp_total numbers_exact nodes.vertices (λ a b. (one_number a b).0) v x none) (edges_stay ends v none)
  gone_again ends (AtEdge e) x none = nodes_same _ _ refl
      (came_and_went edges_total edges_exact nodes.edges (λ a b. (one_edge a b).0) e x none)

  pub restored_is : HasEnds (graph_in nodes) → (edit : GraphEdit) → Fits nodes edit → restored (prepared nodes edit) edit ≡ nodes
  restored_is ends Keep fits = refl
  restored_is ends (Set name a None) fits = gone_again ends (part_of name) (unwritten a) (sym fits.0)
  restored_is ends (Set name a (Some n)) fits = refl
  restored_is ends (Remove name n) fits = refl

  -- what is set or removed has a node by then
  pub has_node : (edit : GraphEdit) → Fits nodes edit → HasNode (prepared nodes edit) edit
  has_node Keep fits = tt
  has_node (Set name a None) fits =
      let is : node_of (with_node nodes (part_of name) (unwritten a)) (part_of name) ≡ Some (unwritten a) =
      node_with (part_of name) (unwritten a) (part_of name)
      ∙ ap (λ t. cond t (Some (unwritten a)) (node_of nodes (part_of name))) ((one_part (part_of name) (part_of name)).1 refl) in
      subst IsSome (sym is) refl
  has_node (Set name a (Some n)) fits = subst IsSome fits.0 refl
  has_node (Remove name n) fits = subst IsSome (sym fits) refl
