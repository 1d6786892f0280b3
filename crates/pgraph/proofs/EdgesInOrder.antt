-- The edges after a vertex are those from or to it, by rising ends.
use Rattle.std.proofs.Common.{◌≡◌, ℕ, suc, Bool, true, false, cond, List, [], ◌∷◌, length, refl, sym, ap, subst, ◌∙◌}
use Rattle.std.specs.Prelude.{Option, Some, None, is_some, IsSome, ◌&&◌, ◌||◌, T, option_map}
use Rattle.std.specs.declared.cmp.Ordering.TheVariants.{Less}
use Rattle.std.specs.Cmp.{eq_by_cmp_equiv}
use Rattle.std.specs.Ordering.{nat_cmp, eq_by_cmp, is_lt}
use Rattle.std.specs.List.{list_any, Contains, AllByRecursion}
use Rattle.std.specs.List.Sorted.{IsStrictlySortedBy}
use Rattle.std.specs.BTreeMap.{is_at}
use Rattle.std.specs.BTreeSet.{contains}
use Rattle.std.specs.FinMap as finite
use Rattle.std.specs.FinMap.Entries.{find, find-where_key, is_sorted-where_key, same_entries, is_sorted, below_all}
use Rattle.std.proofs.lemmas.Map.Keys.{sorted_head, sorted_tail}
use Rattle.std.proofs.lemmas.Map.Views.{list_any-from_Contains}
use Rattle.mont_base.specs.State.{Ends, edge_cmp, touches}
use Rattle.mont_base.proofs.Bytes.{empty_of_length}
use Rattle.mont_laws.proofs.Keys.{both_true, one_edge, edges_total, edges_exact}
use Rattle.mont_laws.proofs.Members.{first_element, later_element}
use Rattle.pgraph.specs.declared.node.Node.{Node}
use Rattle.pgraph.specs.declared.node.VertexNode.{VertexNode}
use Rattle.pgraph.specs.Shelf.{value_of, named_first}
use Rattle.pgraph.specs.GraphIndex.{Nodes, IsIndex, nodes_in, nodes_at, degree_of, stands_behind}
use Rattle.pgraph.specs.EdgesAt.{edges_of, AllThere}
use Rattle.pgraph.proofs.NodeMaps.{edge_in, seen_vertex}
use Rattle.pgraph.proofs.IndexKept.{none_at}

module _ (es : List (Ends × Node)) where
  -- ---- each of them is there
  there_each : (ks : List Ends) → ((k : Ends) → Contains ks k → IsSome (value_of edge_cmp es k)) → AllThere es ks
  there_each [] h = tt
  there_each (k ∷ ks) h = (h k (first_element k ks), there_each ks (λ q a. h q (later_element k ks q a)))

  -- so none is left out
  length_edges : (ks : List Ends) → AllThere es ks → length (edges_of es ks) ≡ length ks
  length_edges [] h = refl
  length_edges (k ∷ ks) h = by (value_of edge_cmp es k) h.0 (length_edges ks h.1)
    where
      by : (o : Option Node) → is_some o ≡ true → length (edges_of es ks) ≡ length ks
          → length (named_first k o (edges_of es ks)) ≡ length (k ∷ ks)
      by None f g = absurd (cc)
      by (Some n) f g = ap suc g

  -- ---- by rising ends
  below_edges : (x : Ends) (ks : List Ends) → AllByRecursion (λ y. edge_cmp x y ≡ Less) ks → below_all edge_cmp x (edges_of es ks) ≡ true
  below_edges x [] h = refl
  below_edges x (k ∷ ks) h = by (value_of edge_cmp es k) (below_edges x ks h.1)
    where
      by : (o : Option Node) → below_all edge_cmp x (edges_of es ks) ≡ true
          → below_all edge_cmp x (named_first k o (edges_of es ks)) ≡ true
      by None rest = rest
      by (Some n) rest = rw (ap is_lt h.0, rest) refl

  sorted_edges : (ks : List Ends) → IsStrictlySortedBy edge_cmp ks → is_sorted edge_cmp (edges_of es ks) ≡ true
  sorted_edges [] h = refl
  sorted_edges (k ∷ ks) h = by (value_of edge_cmp es k) (sorted_edges ks (sorted_tail edge_cmp k ks h))
    where
      by : (o : Option Node) → is_sorted edge_cmp (edges_of es ks) ≡ true → is_sorted edge_cmp (named_first k o (edges_of es ks)) ≡ true
      by None rest = rest
      by (Some n) rest = rw (below_edges k ks (sorted_head edge_cmp k ks h), rest) refl

  -- ---- what is found among them
  found_edge : (q : Ends) (ks : List Ends) → find edge_cmp q (edges_of es ks)
      ≡ cond (list_any (is_at (edge_cmp q)) ks) (value_of edge_cmp es q) None
  found_edge q [] = refl
  found_edge q (k ∷ ks) = by (value_of edge_cmp es k) refl (eq_by_cmp edge_cmp q k) refl (found_edge q ks)
    where
      -- a name that has no node is found nowhere
      none : (t : Bool) (o : Option Node) → o ≡ None → cond t o None ≡ o
      none true o h = refl
      none false o h = sym h

      by : (o : Option Node) → value_of edge_cmp es k ≡ o → (t : Bool) → eq_by_cmp edge_cmp q k ≡ t
          → find edge_cmp q (edges_of es ks) ≡ cond (list_any (is_at (edge_cmp q)) ks) (value_of edge_cmp es q) None
          → find edge_cmp q (named_first k o (edges_of es ks))
          ≡ cond (t || list_any (is_at (edge_cmp q)) ks) (value_of edge_cmp es q) None
      by None e true f rest = rest ∙ none (list_any (is_at (edge_cmp q)) ks) (value_of edge_cmp es q)
          (ap (value_of edge_cmp es) ((one_edge q k).0 f) ∙ e)
      by None e false f rest = rest
      by (Some n) e true f rest = rw f (sym e ∙ ap (value_of edge_cmp es) (sym ((one_edge q k).0 f)))
      by (Some n) e false f rest = rw f rest

-- ---- the ends that stand after a vertex
module _ (vs : List (ℕ × VertexNode)) (es : List (Ends × Node)) (ix : IsIndex (nodes_in vs es) (stands_behind vs)) (v : ℕ) (x : VertexNode)
    (is : Some x ≡ value_of nat_cmp vs v) where
  abbrev nodes : Nodes
  nodes = nodes_in vs es

  pub listed_here : (q : Ends) → contains edge_cmp x.ends q ≡ (finite.contains_key nodes.edges q && touches v q)
  listed_here q = ix.listed v q (contains edge_cmp x.ends q)
      (ap (option_map (λ (n : VertexNode). contains edge_cmp n.ends q)) (sym is))

  -- each of them is an edge
  pub all_there : AllThere es x.ends.keys
  all_there = there_each es x.ends.keys (λ q a. ap is_some (sym (edge_in vs es q))
      ∙ (both_true (finite.contains_key nodes.edges q) (touches v q)
      (sym (listed_here q) ∙ list_any-from_Contains (eq_by_cmp_equiv edges_total) q x.ends.keys a)).0)

  pub in_order : IsStrictlySortedBy edge_cmp x.ends.keys → edges_of es x.ends.keys ≡ nodes_at nodes v
  in_order sorted = same_entries edge_cmp edges_total edges_exact (edges_of es x.ends.keys) (nodes_at nodes v)
      (subst T (sym (sorted_edges es x.ends.keys sorted)) tt)
      (is_sorted-where_key edge_cmp (touches v) (finite.entries nodes.edges) (finite.entries_sorted nodes.edges))
      (λ q. found_edge es q x.ends.keys
      ∙ ap (λ (t : Bool). cond t (value_of edge_cmp es q) None) (listed_here q)
      ∙ ap (λ (o : Option Node). cond (is_some o && touches v q) (value_of edge_cmp es q) None) (edge_in vs es q)
      ∙ tests (touches v q) (value_of edge_cmp es q)
      ∙ ap (λ (o : Option Node). cond (touches v q) o None) (sym (edge_in vs es q) ∙ finite.get-entries nodes.edges q)
      ∙ sym (find-where_key edge_cmp (touches v) q (λ y t. ap (touches v) (sym (edges_exact q y t))) (finite.entries nodes.edges)))
    where
      tests : (t : Bool) (o : Option Node) → cond (is_some o && t) o None ≡ cond t o None
      tests true None = refl
      tests true (Some n) = refl
      tests false None = refl
      tests false (Some n) = refl

  -- they are as many as the edges at the vertex
  pub seen_degree : IsStrictlySortedBy edge_cmp x.ends.keys → (n : Nodes) → nodes_in vs es ≡ n
      → Some (length x.ends.keys) ≡ degree_of n v
  seen_degree sorted n seen = ap Some (sym (length_edges es x.ends.keys all_there) ∙ ap length (in_order sorted)
      ∙ ap (λ (m : Nodes). length (nodes_at m v)) seen)
      ∙ ap (option_map (λ (y : Node). length (nodes_at n v))) (seen_vertex vs es n seen v (Some x) is)

-- no edge goes from or to what is no vertex
pub none_behind : (vs : List (ℕ × VertexNode)) (es : List (Ends × Node)) → IsIndex (nodes_in vs es) (stands_behind vs) → (v : ℕ)
    → None ≡ value_of nat_cmp vs v → [] ≡ nodes_at (nodes_in vs es) v
none_behind vs es ix v none = sym (empty_of_length (nodes_at (nodes_in vs es) v) (none_at (nodes_in vs es) (stands_behind vs) ix v
    (ap is_some (sym (seen_vertex vs es (nodes_in vs es) refl v None none)))))
