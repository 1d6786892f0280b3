-- The graph of the attributes that nodes have.
use Rattle.std.proofs.Common.{◌≡◌, ℕ, ◌==◌, Bool, true, false, cond, List, [], ◌∷◌, map, refl, sym, ap, subst, ◌∙◌}
use Rattle.std.specs.Prelude.{Option, Some, None, is_some, option_map, ◌&&◌, not, T}
use Rattle.std.specs.declared.cmp.Ordering.{Ordering}
use Rattle.std.specs.Cmp.{IsTotalOrder, nat_cmp_total}
use Rattle.std.specs.Ordering.{eq_by_cmp, is_lt}
use Rattle.std.specs.List.{filter}
use Rattle.std.specs.FinMap as finite
use Rattle.std.specs.FinMap.Entries.{find, is_sorted, below_all, same_entries}
use Rattle.mont_base.specs.State.{Ends, touches, edges_at, can_join}
use Rattle.mont_laws.specs.Structures.{Part, AtVertex, AtEdge, attribute_of}
use Rattle.mont_laws.proofs.Keys.{edges_total, edges_exact}
use Rattle.pgraph.specs.declared.node.Node.{Node}
use Rattle.pgraph.specs.GraphIndex.{Nodes, node_of, nodes_at, joins, attributes, graph_in}

some_attribute : (o : Option Node) → is_some (option_map (λ (n : Node). n.attribute) o) ≡ is_some o
some_attribute None = refl
some_attribute (Some n) = refl

abbrev pub attribute_entry : {K : Type 0} → K × Node → K × ℕ
attribute_entry e = (e.0, e.1.attribute)

module _ {K : Type 0} (R : K → K → Ordering) where
  find_attribute : (q : K) (es : List (K × Node)) → find R q (map attribute_entry es) ≡ option_map (λ (n : Node). n.attribute) (find R q es)
  find_attribute q [] = refl
  find_attribute q (e ∷ es) = ap (cond (eq_by_cmp R q e.0) (Some e.1.attribute)) (find_attribute q es) ∙ by (eq_by_cmp R q e.0)
    where
      by : (t : Bool) → cond t (Some e.1.attribute) (option_map (λ (n : Node). n.attribute) (find R q es))
          ≡ option_map (λ (n : Node). n.attribute) (cond t (Some e.1) (find R q es))
      by true = refl
      by false = refl

  below_attributes : (x : K) (es : List (K × Node)) → below_all R x (map attribute_entry es) ≡ below_all R x es
  below_attributes x [] = refl
  below_attributes x (e ∷ es) = ap (λ (b : Bool). is_lt (R x e.0) && b) (below_attributes x es)

  sorted_attributes : (es : List (K × Node)) → is_sorted R (map attribute_entry es) ≡ is_sorted R es
  sorted_attributes [] = refl
  sorted_attributes (e ∷ es) = λ i. below_attributes e.0 es i && sorted_attributes es i

module _ {K : Type 0} {R : K → K → Ordering} (order : IsTotalOrder R) (exact : finite.IsAntisymmetric R) (m : finite.FinMap R Node) where
  pub get_attribute : (q : K) → finite.get (attributes m) q ≡ option_map (λ (n : Node). n.attribute) (finite.get m q)
  get_attribute q = finite.get-from_entries order (map attribute_entry (finite.entries m)) q ∙ find_attribute R q (finite.entries m)
      ∙ ap (option_map (λ (n : Node). n.attribute)) (sym (finite.get-entries m q))

  pub has_attribute : (q : K) → finite.contains_key (attributes m) q ≡ finite.contains_key m q
  has_attribute q = ap is_some (get_attribute q) ∙ some_attribute (finite.get m q)

  pub entries_attributes : finite.entries (attributes m) ≡ map attribute_entry (finite.entries m)
  entries_attributes = same_entries R order exact (finite.entries (attributes m)) (map attribute_entry (finite.entries m))
      (finite.entries_sorted (attributes m)) (subst T (sym (sorted_attributes R (finite.entries m))) (finite.entries_sorted m))
      (λ q. sym (finite.get-entries (attributes m) q) ∙ finite.get-from_entries order (map attribute_entry (finite.entries m)) q)

filter_attributes : (v : ℕ) (es : List (Ends × Node)) → filter (λ (e : Ends × ℕ). touches v e.0) (map attribute_entry es)
    ≡ map attribute_entry (filter (λ (e : Ends × Node). touches v e.0) es)
filter_attributes v [] = refl
filter_attributes v (e ∷ es) = by (touches v e.0) (filter_attributes v es)
  where
    by : (t : Bool) → filter (λ (e : Ends × ℕ). touches v e.0) (map attribute_entry es)
        ≡ map attribute_entry (filter (λ (e : Ends × Node). touches v e.0) es)
        → cond t (attribute_entry e ∷ filter (λ (e : Ends × ℕ). touches v e.0) (map attribute_entry es))
        (filter (λ (e : Ends × ℕ). touches v e.0) (map attribute_entry es))
        ≡ map attribute_entry (cond t (e ∷ filter (λ (e : Ends × Node). touches v e.0) es) (filter (λ (e : Ends × Node). touches v e.0) es))
    by true h = ap (λ (xs : List (Ends × ℕ)). attribute_entry e ∷ xs) h
    by false h = h

-- ---- vertices and edges
module _ (n : Nodes) where
  pub vertex_attribute : (v : ℕ) → finite.get (graph_in n).vertices v ≡ option_map (λ (x : Node). x.attribute) (finite.get n.vertices v)
  vertex_attribute = get_attribute nat_cmp_total finite.nat_cmp-IsAntisymmetric n.vertices

  pub edge_attribute : (e : Ends) → finite.get (graph_in n).edges e ≡ option_map (λ (x : Node). x.attribute) (finite.get n.edges e)
  edge_attribute = get_attribute edges_total edges_exact n.edges

  pub part_attribute : (t : Part) → attribute_of (graph_in n) t ≡ option_map (λ (x : Node). x.attribute) (node_of n t)
  part_attribute (AtVertex v) = vertex_attribute v
  part_attribute (AtEdge e) = edge_attribute e

  pub vertex_there : (v : ℕ) → finite.contains_key (graph_in n).vertices v ≡ finite.contains_key n.vertices v
  vertex_there = has_attribute nat_cmp_total finite.nat_cmp-IsAntisymmetric n.vertices

  pub edge_there : (e : Ends) → finite.contains_key (graph_in n).edges e ≡ finite.contains_key n.edges e
  edge_there = has_attribute edges_total edges_exact n.edges

  pub graph_joins : (e : Ends) → can_join (graph_in n).vertices e ≡ joins n e
  graph_joins e = λ i. not (e.0 == e.1) && (vertex_there e.0 i && vertex_there e.1 i)

  pub graph_edges_at : (v : ℕ) → edges_at (graph_in n) v ≡ map attribute_entry (nodes_at n v)
  graph_edges_at v = ap (filter (λ (e : Ends × ℕ). touches v e.0)) (entries_attributes edges_total edges_exact n.edges)
      ∙ filter_attributes v (finite.entries n.edges)
