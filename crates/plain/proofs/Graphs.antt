-- A graph that is kept as sorted entries loses a vertex.
use Rattle.std.proofs.Common.{◌≡◌, ℕ, List, Option, Some, None, cond, sym, ap, ◌∙◌}
use Rattle.std.specs.Prelude.{not}
use Rattle.std.specs.Cmp.{nat_cmp_total}
use Rattle.std.specs.Ordering.{nat_cmp}
use Rattle.std.specs.List.{filter}
use Rattle.std.specs.Map.{lookup}
use Rattle.std.specs.BTreeMap.{is_at}
use Rattle.std.specs.FinMap as map
use Rattle.mont_base.specs.State.{Graph, Ends, GraphOf, del_vertex, touches}
use Rattle.plain.proofs.Maps.{edges_total, edges_differ, kept_get, kept_remove, kept_retain, remove-absent}

abbrev pub kept_graph : List (ℕ × ℕ) → List (Ends × ℕ) → Graph
kept_graph vs es = record { vertices = map.from_entries vs; edges = map.from_entries es }

module _ (vs : List (ℕ × ℕ)) (es : List (Ends × ℕ)) (g : Graph) (is : kept_graph vs es ≡ g) (vertex : ℕ) where
  vertices_are : map.from_entries vs ≡ g.vertices
  vertices_are = ap (λ h. h.vertices) is

  edges_are : map.from_entries es ≡ g.edges
  edges_are = ap (λ h. h.edges) is

  pub kept_attribute : (o : Option ℕ) → o ≡ lookup (is_at (nat_cmp vertex)) vs → o ≡ map.get g.vertices vertex
  kept_attribute o e = kept_get nat_cmp_total vs g.vertices vertices_are vertex o e

  module _ (ws : List (ℕ × ℕ)) (o : Option ℕ) (had : o ≡ lookup (is_at (nat_cmp vertex)) vs)
      (left : (q : ℕ) → lookup (is_at (nat_cmp q)) ws ≡ cond (is_at (nat_cmp vertex) q) None (lookup (is_at (nat_cmp q)) vs)) where
    removed : map.from_entries ws ≡ map.remove g.vertices vertex
    removed = kept_remove nat_cmp_total vs g.vertices vertices_are map.nat_cmp-IsAntisymmetric ws vertex left

    step_of : (p : Option ℕ) → o ≡ p → (del_vertex g vertex p).state ≡ (del_vertex g vertex (map.get g.vertices vertex)).state
    step_of p e = ap (λ q. (del_vertex g vertex q).state) (sym e ∙ kept_attribute o had)

    -- which it hadn't
    pub no_vertex : o ≡ None → GraphOf (kept_graph ws es) ≡ (del_vertex g vertex (map.get g.vertices vertex)).state
    no_vertex e =
        let same = removed ∙ remove-absent nat_cmp_total map.nat_cmp-IsAntisymmetric g.vertices vertex (sym (kept_attribute o had) ∙ e) in
        (λ i. GraphOf (record { vertices = same i; edges = edges_are i })) ∙ step_of None e

    -- and every edge from or to it
    pub with_edges : (attribute : ℕ) (fs : List (Ends × ℕ)) → o ≡ Some attribute
        → fs ≡ filter (λ (e : Ends × ℕ). not (touches vertex e.0)) es
        → GraphOf (kept_graph ws fs) ≡ (del_vertex g vertex (map.get g.vertices vertex)).state
    with_edges attribute fs e kept =
        let others = kept_retain edges_total es g.edges edges_are edges_differ fs (λ (d : Ends). not (touches vertex d)) kept in
        (λ i. GraphOf (record { vertices = removed i; edges = others i })) ∙ step_of (Some attribute) e
