-- The parts of a graph: what has which attribute after one of them is set or removed, and the ends of its edges.
use Rattle.std.proofs.Common.{◌≡◌, ℕ, List, [], ◌∷◌, ◌==◌, sym, refl, ap, ◌∙◌, subst, Bool, true, false, cond}
use Rattle.std.specs.Prelude.{Option, Some, None, is_some, ◌&&◌, ◌||◌, not}
use Rattle.std.specs.Bool.{Decides}
use Rattle.std.specs.List.{list_any}
use Rattle.std.specs.Cmp.{nat_cmp_total, unsigned_tied}
use Rattle.std.specs.Ordering.{nat_cmp, eq_by_cmp}
use Rattle.std.specs.FinMap as finite
use Rattle.std.specs.Map.{update}
use Rattle.std.proofs.Math.Path.{fun_ext}
use Rattle.mont_base.specs.State.{Graph, Vertices, Edges, Ends, edge_cmp, touches, edges_at, can_join}
use Rattle.mont_laws.specs.Structures.{Part, AtVertex, AtEdge, attribute_of, HasEnds}
use Rattle.mont_laws.proofs.Keys.{both_true, one_number, one_edge, edges_total, edges_exact, remove_update, any_filter}

abbrev pub same_part : Part → Part → Bool
same_part (AtVertex v) (AtVertex w) = eq_by_cmp nat_cmp v w
same_part (AtVertex v) (AtEdge e) = false
same_part (AtEdge d) (AtVertex w) = false
same_part (AtEdge d) (AtEdge e) = eq_by_cmp edge_cmp d e

pub one_part : (a b : Part) → Decides (same_part a b) (a ≡ b)
one_part (AtVertex v) (AtVertex w) = let d = one_number v w in (λ e. ap AtVertex (d.0 e), λ e. d.1 (cc))
one_part (AtVertex v) (AtEdge e) = (λ h. absurd (cc), λ h. absurd (cc))
one_part (AtEdge d) (AtVertex w) = (λ h. absurd (cc), λ h. absurd (cc))
one_part (AtEdge d) (AtEdge e) = let o = one_edge d e in (λ h. ap AtEdge (o.0 h), λ h. o.1 (cc))

-- ---- one part changed
abbrev pub with_vertices : Graph → Vertices → Graph
with_vertices g vertices = record { vertices = vertices; edges = g.edges }

abbrev pub with_edges : Graph → Edges → Graph
with_edges g edges = record { vertices = g.vertices; edges = edges }

pub vertices_update : (g : Graph) (v : ℕ) (o : Option ℕ) (vs : Vertices)
    → update (eq_by_cmp nat_cmp) (finite.get g.vertices) v o ≡ finite.get vs
    → update same_part (attribute_of g) (AtVertex v) o ≡ attribute_of (with_vertices g vs)
vertices_update g v o vs e = fun_ext by
  where
    by : (t : Part) → update same_part (attribute_of g) (AtVertex v) o t ≡ attribute_of (with_vertices g vs) t
    by (AtVertex w) = ap (λ (f : ℕ → Option ℕ). f w) e
    by (AtEdge d) = refl

pub edges_update : (g : Graph) (d : Ends) (o : Option ℕ) (es : Edges)
    → update (eq_by_cmp edge_cmp) (finite.get g.edges) d o ≡ finite.get es
    → update same_part (attribute_of g) (AtEdge d) o ≡ attribute_of (with_edges g es)
edges_update g d o es e = fun_ext by
  where
    by : (t : Part) → update same_part (attribute_of g) (AtEdge d) o t ≡ attribute_of (with_edges g es) t
    by (AtVertex w) = refl
    by (AtEdge q) = ap (λ (f : Ends → Option ℕ). f q) e

pub graph_same : (g h : Graph) → attribute_of g ≡ attribute_of h → g ≡ h
graph_same g h e =
    let vs : g.vertices ≡ h.vertices = finite.same_map nat_cmp_total finite.nat_cmp-IsAntisymmetric g.vertices h.vertices
    (λ v. ap (λ (f : Part → Option ℕ). f (AtVertex v)) e) in
    let es : g.edges ≡ h.edges = finite.same_map edges_total edges_exact g.edges h.edges
    (λ d. ap (λ (f : Part → Option ℕ). f (AtEdge d)) e) in
    λ i. record { vertices = vs i; edges = es i }

-- ---- a vertex and its edges removed
abbrev pub without_vertex : Graph → ℕ → Graph
without_vertex g v = record { vertices = finite.remove g.vertices v; edges = finite.retain_keys g.edges (λ e. not (touches v e)) }

abbrev pub after_removals : (Part → Option ℕ) → List (Ends × ℕ) → ℕ → Part → Option ℕ
after_removals d [] v = update same_part d (AtVertex v) None
after_removals d (e ∷ es) v = after_removals (update same_part d (AtEdge e.0) None) es v

vertex_after : (es : List (Ends × ℕ)) (d : Part → Option ℕ) (v w : ℕ)
    → after_removals d es v (AtVertex w) ≡ cond (eq_by_cmp nat_cmp v w) None (d (AtVertex w))
vertex_after [] d v w = refl
vertex_after (e ∷ es) d v w = vertex_after es _ v w

edge_after : (es : List (Ends × ℕ)) (d : Part → Option ℕ) (v : ℕ) (q : Ends)
    → after_removals d es v (AtEdge q) ≡ cond (list_any (λ (e : Ends × ℕ). eq_by_cmp edge_cmp e.0 q) es) None (d (AtEdge q))
edge_after [] d v q = refl
edge_after (e ∷ es) d v q = edge_after es _ v q ∙ by (list_any (λ (e : Ends × ℕ). eq_by_cmp edge_cmp e.0 q) es) (eq_by_cmp edge_cmp e.0 q)
  where
    by : (t u : Bool) → cond t None (cond u None (d (AtEdge q))) ≡ cond (u || t) None (d (AtEdge q))
    by true true = refl
    by true false = refl
    by false true = refl
    by false false = refl

turned : (t : Bool) (o : Option ℕ) → cond (t && is_some o) None o ≡ cond (not t) o None
turned true None = refl
turned true (Some a) = refl
turned false None = refl
turned false (Some a) = refl

kept_edges : (g : Graph) (v : ℕ) (q : Ends) → finite.get (finite.retain_keys g.edges (λ e. not (touches v e))) q ≡ cond
    (not (touches v q)) (finite.get g.edges q) None
kept_edges g v q = finite.get-retain_keys g.edges (λ e. not (touches v e)) q
    (λ e is. ap (λ (e : Ends). not (touches v e)) (sym (edges_exact q e is)))

pub removals_update : (g : Graph) (v : ℕ) → after_removals (attribute_of g) (edges_at g v) v ≡ attribute_of (without_vertex g v)
removals_update g v = fun_ext by
  where
    by : (t : Part) → after_removals (attribute_of g) (edges_at g v) v t ≡ attribute_of (without_vertex g v) t
    by (AtVertex w) = vertex_after (edges_at g v) (attribute_of g) v w
        ∙ ap (λ (f : ℕ → Option ℕ). f w) (remove_update nat_cmp_total finite.nat_cmp-IsAntisymmetric g.vertices v)
    by (AtEdge q) = edge_after (edges_at g v) (attribute_of g) v q
        ∙ ap (λ t. cond t None (finite.get g.edges q))
        (any_filter edges_total edges_exact (touches v) q (finite.entries g.edges)
        ∙ ap (λ (o : Option ℕ). touches v q && is_some o) (sym (finite.get-entries g.edges q)))
        ∙ turned (touches v q) (finite.get g.edges q)
        ∙ sym (kept_edges g v q)

-- ---- the ends of edges
neither : (a b : Bool) → not (a || b) ≡ true → (a ≡ false) × (b ≡ false)
neither true b e = absurd (cc)
neither false true e = absurd (cc)
neither false false e = (refl, refl)

ends_kept : (vs ws : Vertices) (e : Ends) → (finite.contains_key vs e.0 ≡ true → finite.contains_key ws e.0 ≡ true)
    → (finite.contains_key vs e.1 ≡ true → finite.contains_key ws e.1 ≡ true) → can_join vs e ≡ true → can_join ws e ≡ true
ends_kept vs ws e a b h =
    let p = both_true (not (e.0 == e.1)) (finite.contains_key vs e.0 && finite.contains_key vs e.1) h in
    let q = both_true (finite.contains_key vs e.0) (finite.contains_key vs e.1) p.1 in
    rw (p.0, a q.0, b q.1) refl

still_vertex : (vs : Vertices) (v a w : ℕ) → finite.contains_key vs w ≡ true → finite.contains_key (finite.insert vs v a) w ≡ true
still_vertex vs v a w h = ap is_some (finite.get-insert nat_cmp_total vs v a w) ∙ by (eq_by_cmp nat_cmp w v)
  where
    by : (t : Bool) → is_some (cond t (Some a) (finite.get vs w)) ≡ true
    by true = refl
    by false = h

other_vertex : (vs : Vertices) (v w : ℕ) → (w == v) ≡ false → finite.contains_key vs w ≡ true
    → finite.contains_key (finite.remove vs v) w ≡ true
other_vertex vs v w ne h = ap is_some
    (finite.get-remove nat_cmp_total vs v w ∙ ap (λ t. cond t None (finite.get vs w)) (unsigned_tied w v ∙ ne)) ∙ h

some_of : (t : Bool) (o : Option ℕ) → is_some (cond t o None) ≡ true → (t ≡ true) × (is_some o ≡ true)
some_of true o e = (refl, e)
some_of false o e = absurd (cc)

pub ends_addv : (g : Graph) (v a : ℕ) → HasEnds g → HasEnds (with_vertices g (finite.insert g.vertices v a))
ends_addv g v a h e there = ends_kept g.vertices (finite.insert g.vertices v a) e (still_vertex g.vertices v a e.0)
    (still_vertex g.vertices v a e.1) (h e there)

pub ends_delv : (g : Graph) (v : ℕ) → HasEnds g → HasEnds (without_vertex g v)
ends_delv g v h e there =
    let p = some_of (not (touches v e)) (finite.get g.edges e) (ap is_some (sym (kept_edges g v e)) ∙ there) in
    let n = neither (e.0 == v) (e.1 == v) p.0 in
    ends_kept g.vertices (finite.remove g.vertices v) e (other_vertex g.vertices v e.0 n.0) (other_vertex g.vertices v e.1 n.1) (h e p.1)

pub ends_adde : (g : Graph) (d : Ends) (a : ℕ) → can_join g.vertices d ≡ true → HasEnds g
    → HasEnds (with_edges g (finite.insert g.edges d a))
ends_adde g d a joins h e there = by (eq_by_cmp edge_cmp e d) refl (ap is_some (sym (finite.get-insert edges_total g.edges d a e)) ∙ there)
  where
    by : (t : Bool) → eq_by_cmp edge_cmp e d ≡ t → is_some (cond t (Some a) (finite.get g.edges e)) ≡ true → can_join g.vertices e ≡ true
    by true f is = subst (λ (q : Ends). can_join g.vertices q ≡ true) (sym ((one_edge e d).0 f)) joins
    by false f is = h e is

pub ends_dele : (g : Graph) (d : Ends) → HasEnds g → HasEnds (with_edges g (finite.remove g.edges d))
ends_dele g d h e there = by (eq_by_cmp edge_cmp e d) (ap is_some (sym (finite.get-remove edges_total g.edges d e)) ∙ there)
  where
    by : (t : Bool) → is_some (cond t None (finite.get g.edges e)) ≡ true → can_join g.vertices e ≡ true
    by true is = absurd (cc)
    by false is = h e is
