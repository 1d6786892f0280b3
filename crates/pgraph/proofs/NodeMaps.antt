-- The finite maps of nodes that two shelves hold.
use Rattle.std.proofs.Common.{◌≡◌, ℕ, Bool, true, false, cond, List, [], ◌∷◌, map, length, refl, sym, ap, ◌∙◌}
use Rattle.std.specs.Prelude.{Option, Some, None, is_some, option_map}
use Rattle.std.specs.declared.cmp.Ordering.{Ordering}
use Rattle.std.specs.Cmp.{nat_cmp_total}
use Rattle.std.specs.Ordering.{nat_cmp}
use Rattle.std.specs.Map.{lookup}
use Rattle.std.specs.BTreeMap.{is_at}
use Rattle.std.specs.BTreeSet.{contains}
use Rattle.std.specs.FinMap as finite
use Rattle.mont_base.specs.State.{Ends, edge_cmp}
use Rattle.mont_laws.proofs.Keys.{edges_total, edges_exact}
use Rattle.plain.proofs.Maps.{get-lookup, kept_insert, kept_remove}
use Rattle.pgraph.specs.declared.node.Node.{Node}
use Rattle.pgraph.specs.declared.node.VertexNode.{VertexNode}
use Rattle.pgraph.specs.Shelf.{value_of, SetsValue}
use Rattle.pgraph.specs.GraphIndex.{Nodes, nodes_in, nodes_at, degree_of, node_in, stands_behind}

pub lookup_map : {K X Y : Type 0} (f : X → Y) (test : K → Bool) (es : List (K × X))
    → lookup test (map (λ (e : K × X). (e.0, f e.1)) es) ≡ option_map f (lookup test es)
lookup_map f test [] = refl
lookup_map {X = X} {Y = Y} f test (e ∷ es) = ap (cond (test e.0) (Some (f e.1))) (lookup_map f test es) ∙ by (test e.0)
  where
    by : (t : Bool) → cond t (Some (f e.1)) (option_map f (lookup test es)) ≡ option_map f (cond t (Some e.1) (lookup test es))
    by true = refl
    by false = refl

-- one name has another value, and so has what is read of it
pub sets_map : {K X Y : Type 0} (f : X → Y) (cmp : K → K → Ordering) (es fs : List (K × X)) (name : K) (w : Option X)
    → SetsValue cmp es fs name w
    → SetsValue cmp (map (λ (e : K × X). (e.0, f e.1)) es) (map (λ (e : K × X). (e.0, f e.1)) fs) name (option_map f w)
sets_map {X = X} f cmp es fs name w h q = lookup_map f (is_at (cmp q)) fs ∙ ap (option_map f) (h q) ∙ by (is_at (cmp name) q)
    ∙ ap (cond (is_at (cmp name) q) (option_map f w)) (sym (lookup_map f (is_at (cmp q)) es))
  where
    by : (t : Bool) → option_map f (cond t w (lookup (is_at (cmp q)) es))
        ≡ cond t (option_map f w) (option_map f (lookup (is_at (cmp q)) es))
    by true = refl
    by false = refl

module _ (vs : List (ℕ × VertexNode)) (es : List (Ends × Node)) where
  pub vertex_in : (v : ℕ) → finite.get (nodes_in vs es).vertices v ≡ option_map (λ (n : VertexNode). n.node) (value_of nat_cmp vs v)
  vertex_in v = get-lookup nat_cmp_total (map (λ (e : ℕ × VertexNode). (e.0, e.1.node)) vs) v
      ∙ lookup_map (λ (n : VertexNode). n.node) (is_at (nat_cmp v)) vs

  pub edge_in : (e : Ends) → finite.get (nodes_in vs es).edges e ≡ value_of edge_cmp es e
  edge_in e = get-lookup edges_total es e

  pub vertex_inserted : (ws : List (ℕ × VertexNode)) (v : ℕ) (n : VertexNode) → SetsValue nat_cmp vs ws v (Some n)
      → (nodes_in ws es).vertices ≡ finite.insert (nodes_in vs es).vertices v n.node
  vertex_inserted ws v n h = kept_insert nat_cmp_total (map (λ (e : ℕ × VertexNode). (e.0, e.1.node)) vs) (nodes_in vs es).vertices refl
      finite.nat_cmp-IsAntisymmetric (map (λ (e : ℕ × VertexNode). (e.0, e.1.node)) ws) v n.node
      (sets_map (λ (n : VertexNode). n.node) nat_cmp vs ws v (Some n) h)

  pub vertex_removed : (ws : List (ℕ × VertexNode)) (v : ℕ) → SetsValue nat_cmp vs ws v None
      → (nodes_in ws es).vertices ≡ finite.remove (nodes_in vs es).vertices v
  vertex_removed ws v h = kept_remove nat_cmp_total (map (λ (e : ℕ × VertexNode). (e.0, e.1.node)) vs) (nodes_in vs es).vertices refl
      finite.nat_cmp-IsAntisymmetric (map (λ (e : ℕ × VertexNode). (e.0, e.1.node)) ws) v
      (sets_map (λ (n : VertexNode). n.node) nat_cmp vs ws v None h)

  pub edge_inserted : (fs : List (Ends × Node)) (e : Ends) (n : Node) → SetsValue edge_cmp es fs e (Some n)
      → (nodes_in vs fs).edges ≡ finite.insert (nodes_in vs es).edges e n
  edge_inserted fs e n h = kept_insert edges_total es (nodes_in vs es).edges refl edges_exact fs e n h

  pub edge_removed : (fs : List (Ends × Node)) (e : Ends) → SetsValue edge_cmp es fs e None
      → (nodes_in vs fs).edges ≡ finite.remove (nodes_in vs es).edges e
  edge_removed fs e h = kept_remove edges_total es (nodes_in vs es).edges refl edges_exact fs e h

-- ---- what an index with this view has
module _ (vs : List (ℕ × VertexNode)) (es : List (Ends × Node)) (n : Nodes) (is : nodes_in vs es ≡ n) where
  pub seen_vertex : (v : ℕ) (o : Option VertexNode) → o ≡ value_of nat_cmp vs v
      → option_map (λ (x : VertexNode). x.node) o ≡ finite.get n.vertices v
  seen_vertex v o e = ap (option_map (λ (x : VertexNode). x.node)) e ∙ sym (vertex_in vs es v)
      ∙ ap (λ (m : Nodes). finite.get m.vertices v) is

  pub seen_edge : (e : Ends) (o : Option Node) → o ≡ value_of edge_cmp es e → o ≡ finite.get n.edges e
  seen_edge e o f = f ∙ sym (edge_in vs es e) ∙ ap (λ (m : Nodes). finite.get m.edges e) is

  pub no_vertex : (v : ℕ) → finite.get n.vertices v ≡ None → value_of nat_cmp vs v ≡ None
  no_vertex v e = by (value_of nat_cmp vs v) (seen_vertex v (value_of nat_cmp vs v) refl ∙ e)
    where
      by : (o : Option VertexNode) → option_map (λ (x : VertexNode). x.node) o ≡ None → o ≡ None
      by None h = refl
      by (Some x) h = absurd (cc)

  pub some_vertex : (v : ℕ) → finite.contains_key n.vertices v ≡ true → is_some (value_of nat_cmp vs v) ≡ true
  some_vertex v e = by (value_of nat_cmp vs v) (ap is_some (seen_vertex v (value_of nat_cmp vs v) refl) ∙ e)
    where
      by : (o : Option VertexNode) → is_some (option_map (λ (x : VertexNode). x.node) o) ≡ true → is_some o ≡ true
      by None h = h
      by (Some x) h = refl

  pub no_edge : (e : Ends) → finite.get n.edges e ≡ None → value_of edge_cmp es e ≡ None
  no_edge e h = seen_edge e (value_of edge_cmp es e) refl ∙ h

  pub some_edge : (e : Ends) → finite.contains_key n.edges e ≡ true → is_some (value_of edge_cmp es e) ≡ true
  some_edge e h = ap is_some (seen_edge e (value_of edge_cmp es e) refl) ∙ h

  pub no_degree : (v : ℕ) → None ≡ value_of nat_cmp vs v → None ≡ degree_of n v
  no_degree v e = ap (option_map (λ (x : Node). length (nodes_at n v))) (seen_vertex v None e)

pub nodes_same : (n m : Nodes) → n.vertices ≡ m.vertices → n.edges ≡ m.edges → n ≡ m
nodes_same n m p q = λ i. record { vertices = p i; edges = q i }

-- vertices that keep their nodes
pub vertices_kept : (vs ws : List (ℕ × VertexNode)) (es fs : List (Ends × Node)) → ((v : ℕ) → node_in ws v ≡ node_in vs v)
    → (nodes_in ws fs).vertices ≡ (nodes_in vs es).vertices
vertices_kept vs ws es fs same = finite.same_map nat_cmp_total finite.nat_cmp-IsAntisymmetric _ _
    (λ v. vertex_in ws fs v ∙ same v ∙ sym (vertex_in vs es v))

-- what stands after one vertex is set
pub behind_set : (vs ws : List (ℕ × VertexNode)) (v : ℕ) (w : Option VertexNode) → SetsValue nat_cmp vs ws v w → (q : ℕ) (e : Ends)
    → stands_behind ws q e
    ≡ cond (is_at (nat_cmp v) q) (option_map (λ (n : VertexNode). contains edge_cmp n.ends e) w) (stands_behind vs q e)
behind_set vs ws v w h q e = ap (option_map (λ (n : VertexNode). contains edge_cmp n.ends e)) (h q) ∙ by (is_at (nat_cmp v) q)
  where
    by : (t : Bool) → option_map (λ (n : VertexNode). contains edge_cmp n.ends e) (cond t w (value_of nat_cmp vs q))
        ≡ cond t (option_map (λ (n : VertexNode). contains edge_cmp n.ends e) w) (stands_behind vs q e)
    by true = refl
    by false = refl
