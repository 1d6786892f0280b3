-- What graph operations do to the parts that records show.
use Rattle.std.proofs.Common.{◌≡◌, ℕ, List, [], ◌∷◌, ◌++◌, append_assoc, append-nil, map, sym, refl, ap, ◌∙◌, subst, Bool, true, false}
use Rattle.std.specs.Prelude.{◌≢◌, Option, Some, None, ◌==◌, ◌&&◌, not, is_some, if◌then◌else◌}
use Rattle.std.specs.Cmp.{nat_cmp_total}
use Rattle.std.specs.FinMap as finite
use Rattle.std.specs.Map.{update}
use Rattle.mont_base.specs.declared.record.Held.{Held}
use Rattle.mont_base.specs.declared.operation.Op.{Op}
use Rattle.mont_base.specs.declared.operation.Op.TheVariants as ops
use Rattle.mont_base.specs.declared.effect.Thing.TheVariants.{Vertex}
use Rattle.mont_base.specs.declared.effect.Effect.{Effect}
use Rattle.mont_base.specs.declared.effect.Effect.TheVariants.{Inserts, Replaces, Removes}
use Rattle.mont_base.specs.Layout.{Shape}
use Rattle.mont_base.specs.State.{Graph, Vertices, Ends, can_join, edge_thing, edges_at, set_effects, del_vertex, add_edge, del_edge, graph_step}
use Rattle.mont_base.specs.Bodies.{vertex_in, edge_in}
use Rattle.mont_laws.specs.Shows.{live_things, Shows}
use Rattle.mont_laws.specs.Structures.{Part, AtVertex, AtEdge, part_for, vertex_part, edge_part, attribute_of, HasEnds, HasGraph, HasThings}
use Rattle.mont_laws.specs.Effects.{IsNextVersion, IsEffect, AreEffects, AreEffectsInTurn}
use Rattle.mont_laws.proofs.Keys.{is_some_not, both_true, edges_total, edges_exact, insert_update, remove_update}
use Rattle.mont_laws.proofs.Bodies.{vertex_back, edge_back, vertex_fits, edge_fits, edge_tag, no_vertex_tag}
use Rattle.mont_laws.proofs.Holders.{held_live}
use Rattle.mont_laws.proofs.Parts.{same_part, one_part, with_vertices, with_edges, after_removals, vertices_update, edges_update, graph_same, removals_update, ends_addv, ends_delv, ends_adde, ends_dele}
use Rattle.mont_laws.proofs.Shows.{shows_once, IsEdit, shows_edit}
use Rattle.mont_laws.proofs.Edits.{inserted, replaced, removed, no_zip, one_zip}
use Rattle.mont_laws.proofs.Removals.{removed_in_turn}
use Rattle.mont_laws.proofs.Forms.{removals, are_removals, apart_edges}

-- at most one graph is shown
pub graph_once : (rs : List Held) (g h : Graph) → HasGraph rs g → HasGraph rs h → g ≡ h
graph_once rs g h a b = graph_same g h (shows_once (live_things part_for rs) (attribute_of g) (attribute_of h) a.parts b.parts)

-- a body with the ends of an edge that can be read is no loop
pub edge_sure : (ends : Ends) (a : ℕ) (body : List ℕ) → edge_in body ≡ Some (ends, a) → part_for body ≢ None
    → part_for body ≡ Some (AtEdge ends, a)
edge_sure ends a body e ne = by (ends.0 == ends.1) refl
  where
    loop : (ends.0 == ends.1) ≡ true → part_for body ≡ None
    loop f = (λ i. if no_vertex_tag body (edge_tag body (ends, a) e) i then vertex_part (vertex_in body) else edge_part (e i)) ∙ rw f refl

    by : (t : Bool) → (ends.0 == ends.1) ≡ t → part_for body ≡ Some (AtEdge ends, a)
    by true f = absurd (ne (loop f))
    by false f = edge_fits ends a body f e

module _ (unit : ℕ) (rs : List Held) (d : Part → Option ℕ) (shown : Shows (live_things part_for rs) d) where
  -- the part that a live record has, by the thing that it names
  named_vertex : (v a : ℕ) (w : Held) (next : IsNextVersion rs (Vertex v a) w) → part_for next.last.body ≡ Some (AtVertex v, next.named.0)
  named_vertex v a w next = vertex_fits v next.named.0 next.last.body next.named.1

  named_edge : (e : Ends) (a : ℕ) (w : Held) (next : IsNextVersion rs (edge_thing (e, a)) w)
      → part_for next.last.body ≡ Some (AtEdge e, next.named.0)
  named_edge e a w next = edge_sure e next.named.0 next.last.body next.named.1
      (λ n. shown.readable w.label.identity (held_live part_for rs w.label.identity next.last next.live ∙ ap Some n))

  pub removed_vertex : (v a : ℕ) (w : Held) → IsEffect unit rs (Removes (Vertex v a)) w → IsEdit part_for rs d (AtVertex v) None w
  removed_vertex v a w h = removed part_for rs d (AtVertex v) w (Vertex v a) h.writes.1.named.0 h.writes.0 h.writes.1
      (named_vertex v a w h.writes.1)

  pub removed_edge : (e : Ends) (a : ℕ) (w : Held) → IsEffect unit rs (Removes (edge_thing (e, a))) w
      → IsEdit part_for rs d (AtEdge e) None w
  removed_edge e a w h = removed part_for rs d (AtEdge e) w (edge_thing (e, a)) h.writes.1.named.0 h.writes.0 h.writes.1
      (named_edge e a w h.writes.1)

  set_vertex : (v a : ℕ) (w : Held) (t : Bool) → is_some (d (AtVertex v)) ≡ t → AreEffects unit rs (set_effects t (Vertex v a)) (w ∷ [])
      → IsEdit part_for rs d (AtVertex v) (Some a) w
  set_vertex v a w true e h =
      let b = h.0.writes in
      replaced part_for rs d (AtVertex v) w (Vertex v a) b.1.named.0 a b.0 b.1 (named_vertex v a w b.1)
      (vertex_fits v a w.body (ap vertex_in b.2 ∙ vertex_back v a))
  set_vertex v a w false e h =
      let b = h.0.writes in
      inserted part_for rs d (AtVertex v) w a b.0 b.1 (vertex_fits v a w.body (ap vertex_in b.2 ∙ vertex_back v a))
      (is_some_not (d (AtVertex v)) e)

  set_edge : (e : Ends) (a : ℕ) (w : Held) → (e.0 == e.1) ≡ false → (t : Bool) → is_some (d (AtEdge e)) ≡ t
      → AreEffects unit rs (set_effects t (edge_thing (e, a))) (w ∷ []) → IsEdit part_for rs d (AtEdge e) (Some a) w
  set_edge e a w ne true is h =
      let b = h.0.writes in
      replaced part_for rs d (AtEdge e) w (edge_thing (e, a)) b.1.named.0 a b.0 b.1 (named_edge e a w b.1)
      (edge_fits e a w.body ne (ap edge_in b.2 ∙ edge_back e a))
  set_edge e a w ne false is h =
      let b = h.0.writes in
      inserted part_for rs d (AtEdge e) w a b.0 b.1 (edge_fits e a w.body ne (ap edge_in b.2 ∙ edge_back e a))
      (is_some_not (d (AtEdge e)) is)

  pub edit_shows : (t : Part) (o : Option ℕ) (w : Held) → IsEdit part_for rs d t o w
      → Shows (live_things part_for (rs ++ w ∷ [])) (update same_part d t o)
  edit_shows t o w edit = shows_edit same_part one_part part_for rs d t o w shown edit

-- a vertex that goes with its edges, one after the other
removals_show : (unit v a : ℕ) (es : List (Ends × ℕ)) (rs ws : List Held) (d : Part → Option ℕ) → Shows (live_things part_for rs) d
    → AreEffectsInTurn unit rs (map Removes (removals es v a)) ws → Shows (live_things part_for (rs ++ ws)) (after_removals d es v)
removals_show unit v a [] rs [] d s h = absurd h
removals_show unit v a [] rs (w ∷ []) d s h = edit_shows unit rs d s (AtVertex v) None w (removed_vertex unit rs d s v a w h.0)
removals_show unit v a [] rs (w ∷ z ∷ ws) d s h = absurd h.1
removals_show unit v a (e ∷ es) rs [] d s h = absurd h
removals_show unit v a (e ∷ es) rs (w ∷ ws) d s h =
    let next = edit_shows unit rs d s (AtEdge e.0) None w (removed_edge unit rs d s e.0 e.1 w h.0) in
    subst (λ (qs : List Held). Shows (live_things part_for qs) (after_removals d (e ∷ es) v)) (append_assoc rs (w ∷ []) ws)
    (removals_show unit v a es (rs ++ w ∷ []) ws (update same_part d (AtEdge e.0) None) next h.1)

no_loop : (vs : Vertices) (e : Ends) → can_join vs e ≡ true → (e.0 == e.1) ≡ false
no_loop vs e h = by (e.0 == e.1) (both_true (not (e.0 == e.1)) (finite.contains_key vs e.0 && finite.contains_key vs e.1) h).0
  where
    by : (t : Bool) → not t ≡ true → t ≡ false
    by true f = absurd (cc)
    by false f = refl

module _ (unit : ℕ) (rs : List Held) (g : Graph) (has : HasGraph rs g) where
  unchanged : (ws : List Held) → AreEffects unit rs [] ws → HasGraph (rs ++ ws) g
  unchanged ws are = subst (λ (zs : List Held). HasGraph zs g)
      (sym (append-nil rs) ∙ ap (λ (zs : List Held). rs ++ zs) (sym (no_zip (IsEffect unit rs) ws are))) has

  one_edit : (t : Part) (o : Option ℕ) (h : Graph) (ws : List Held) (w : Held) → ws ≡ w ∷ []
      → update same_part (attribute_of g) t o ≡ attribute_of h → HasEnds h → IsEdit part_for rs (attribute_of g) t o w
      → HasGraph (rs ++ ws) h
  one_edit t o h ws w is e ends edit = subst (λ (zs : List Held). HasGraph (rs ++ zs) h) (sym is) (record {
    parts = subst (λ (f : Part → Option ℕ). Shows (live_things part_for (rs ++ w ∷ [])) f) e
        (edit_shows unit rs (attribute_of g) has.parts t o w edit);
    ends = ends;
  })

  addv_leads : (v a : ℕ) (ws : List Held) (t : Bool) → finite.contains_key g.vertices v ≡ t
      → AreEffects unit rs (set_effects t (Vertex v a)) ws → HasGraph (rs ++ ws) (with_vertices g (finite.insert g.vertices v a))
  addv_leads v a ws true e are = let b = one_zip (IsEffect unit rs) (Replaces (Vertex v a)) ws are in
      one_edit (AtVertex v) (Some a) (with_vertices g (finite.insert g.vertices v a)) ws b.0 b.1
      (vertices_update g v (Some a) (finite.insert g.vertices v a)
      (insert_update nat_cmp_total finite.nat_cmp-IsAntisymmetric g.vertices v a)) (ends_addv g v a has.ends)
      (set_vertex unit rs (attribute_of g) has.parts v a b.0 true e (b.2, tt))
  addv_leads v a ws false e are = let b = one_zip (IsEffect unit rs) (Inserts (Vertex v a)) ws are in
      one_edit (AtVertex v) (Some a) (with_vertices g (finite.insert g.vertices v a)) ws b.0 b.1
      (vertices_update g v (Some a) (finite.insert g.vertices v a)
      (insert_update nat_cmp_total finite.nat_cmp-IsAntisymmetric g.vertices v a)) (ends_addv g v a has.ends)
      (set_vertex unit rs (attribute_of g) has.parts v a b.0 false e (b.2, tt))

  delv_leads : (v : ℕ) (ws : List Held) (o : Option ℕ) → AreEffects unit rs (del_vertex g v o).effects ws → (s : Shape)
      → HasThings s unit (rs ++ ws) (del_vertex g v o).state
  delv_leads v ws None are s = unchanged ws are
  delv_leads v ws (Some a) are s =
      let turn = removed_in_turn unit (removals (edges_at g v) v a) rs ws (apart_edges g v a)
      (subst (λ (es : List Effect). AreEffects unit rs es ws) (are_removals (edges_at g v) v a) are) in
      record {
        parts = subst (λ (f : Part → Option ℕ). Shows (live_things part_for (rs ++ ws)) f) (removals_update g v)
            (removals_show unit v a (edges_at g v) rs ws (attribute_of g) has.parts turn);
        ends = ends_delv g v has.ends;
      }

  set_leads : (e : Ends) (a : ℕ) (ws : List Held) → can_join g.vertices e ≡ true → (t : Bool) → finite.contains_key g.edges e ≡ t
      → AreEffects unit rs (set_effects t (edge_thing (e, a))) ws → HasGraph (rs ++ ws) (with_edges g (finite.insert g.edges e a))
  set_leads e a ws joins true is are = let b = one_zip (IsEffect unit rs) (Replaces (edge_thing (e, a))) ws are in
      one_edit (AtEdge e) (Some a) (with_edges g (finite.insert g.edges e a)) ws b.0 b.1
      (edges_update g e (Some a) (finite.insert g.edges e a) (insert_update edges_total edges_exact g.edges e a))
      (ends_adde g e a joins has.ends)
      (set_edge unit rs (attribute_of g) has.parts e a b.0 (no_loop g.vertices e joins) true is (b.2, tt))
  set_leads e a ws joins false is are = let b = one_zip (IsEffect unit rs) (Inserts (edge_thing (e, a))) ws are in
      one_edit (AtEdge e) (Some a) (with_edges g (finite.insert g.edges e a)) ws b.0 b.1
      (edges_update g e (Some a) (finite.insert g.edges e a) (insert_update edges_total edges_exact g.edges e a))
      (ends_adde g e a joins has.ends)
      (set_edge unit rs (attribute_of g) has.parts e a b.0 (no_loop g.vertices e joins) false is (b.2, tt))

  adde_leads : (e : Ends) (a : ℕ) (ws : List Held) (t : Bool) → can_join g.vertices e ≡ t
      → AreEffects unit rs (add_edge g e a t).effects ws → (s : Shape) → HasThings s unit (rs ++ ws) (add_edge g e a t).state
  adde_leads e a ws true joins are s = set_leads e a ws joins (finite.contains_key g.edges e) refl are
  adde_leads e a ws false joins are s = unchanged ws are

  dele_leads : (e : Ends) (ws : List Held) (o : Option ℕ) → AreEffects unit rs (del_edge g e o).effects ws → (s : Shape)
      → HasThings s unit (rs ++ ws) (del_edge g e o).state
  dele_leads e ws None are s = unchanged ws are
  dele_leads e ws (Some a) are s = let b = one_zip (IsEffect unit rs) (Removes (edge_thing (e, a))) ws are in
      one_edit (AtEdge e) None (with_edges g (finite.remove g.edges e)) ws b.0 b.1
      (edges_update g e None (finite.remove g.edges e) (remove_update edges_total edges_exact g.edges e)) (ends_dele g e has.ends)
      (removed_edge unit rs (attribute_of g) has.parts e a b.0 b.2)

  pub graph_leads : (s : Shape) (op : Op) (ws : List Held) → AreEffects unit rs (graph_step g op).effects ws
      → HasThings s unit (rs ++ ws) (graph_step g op).state
  graph_leads s (ops.AddV u v a) ws are = addv_leads v a ws (finite.contains_key g.vertices v) refl are
  graph_leads s (ops.DelV u v) ws are = delv_leads v ws (finite.get g.vertices v) are s
  graph_leads s (ops.AddE u from to a) ws are = adde_leads (from, to) a ws (can_join g.vertices (from, to)) refl are s
  graph_leads s (ops.DelE u from to) ws are = dele_leads (from, to) ws (finite.get g.edges (from, to)) are s
  graph_leads s _ ws are = unchanged ws are
