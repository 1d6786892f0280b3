-- The effects of the operations of queues and graphs can be written.
use Rattle.std.proofs.Common.{◌≡◌, ℕ, List, [], ◌∷◌, ◌++◌, length, map, sym, refl, ap, ◌∙◌, subst, Bool, true, false, cond, inl, inr}
use Rattle.std.specs.Prelude.{Option, Some, None, T, ◌⊎◌}
use Rattle.std.specs.List.{Contains}
use Rattle.std.specs.Ordering.{eq_by_cmp}
use Rattle.std.specs.FinMap as finite
use Rattle.std.specs.FinMap.{find, is_sorted}
use Rattle.mont_base.specs.declared.record.Held.{Held}
use Rattle.mont_base.specs.declared.operation.Op.{Op}
use Rattle.mont_base.specs.declared.operation.Op.TheVariants as ops
use Rattle.mont_base.specs.declared.effect.Thing.TheVariants.{Item, Vertex}
use Rattle.mont_base.specs.declared.effect.Effect.TheVariants.{Removes}
use Rattle.mont_base.specs.Layout.{Shape}
use Rattle.mont_base.specs.Bodies.{item_in, vertex_in, edge_in, item_body, vertex_body, edge_body}
use Rattle.mont_base.specs.Structure.{is_serial}
use Rattle.mont_base.specs.State.{State, MapOf, QueueOf, GraphOf, Ends, Graph, edge_cmp, touches, edges_at, edge_thing, can_join, set_effects, queue_deq, queue_step, del_vertex, add_edge, del_edge, graph_step, step}
use Rattle.mont_laws.specs.Structures.{item_for, part_for, Part, AtVertex, AtEdge, HasItems, HasGraph, HasThings, HasStructure}
use Rattle.mont_laws.specs.Effects.{IsLeastSerial, HasSerial, AreEffects, AreWrittenAt}
use Rattle.mont_laws.proofs.Members.{no_element, first_element, later_element, element_cases, kept_element}
use Rattle.mont_laws.proofs.Keys.{some_there, one_number, one_edge}
use Rattle.mont_laws.proofs.Holders.{fitted}
use Rattle.mont_laws.proofs.Rows.{first, second, Serials, find_below, first_least}
use Rattle.mont_laws.proofs.Queues.{item_at, values_of, ShowsRow, row_shown, serial_found}
use Rattle.mont_laws.proofs.Found.{IsVertexPart, IsEdgePart, part_cases}
use Rattle.mont_laws.proofs.Writes.{AllCanWrite, HasHolder, holding, insert_can, replace_can, remove_can, map_can, write_all}

module _ (unit : ℕ) (rs : List Held) where
  -- ---- queues
  item_holder : (e : ℕ × ℕ) (es : Serials) → ShowsRow rs (e ∷ es) → HasHolder unit rs (Item e.1)
  item_holder e es row =
      let here : item_at (e ∷ es) e.0 ≡ Some e.1 = ap (λ (t : Bool). cond t (Some e.1) (item_at es e.0)) ((one_number e.0 e.0).1 refl) in
      let b = row.shown.there e.0 e.1 here in
      let h = holding unit rs item_for b.0 e b.1 in
      let least : IsLeastSerial rs e.0 = λ other live. first_least e es other live.2 row.sorted
      (serial_found rs (e ∷ es) row live.0 other live.2 live.1 live.3 live.4).1 in
      record { holder = h.0; live = h.1; named = (e.0, (fitted (λ (e : ℕ × ℕ). is_serial e.0) (item_in h.0.body) e h.2).0, least) }

  deq_can : (es : Serials) → ShowsRow rs es → AllCanWrite unit rs (queue_deq (values_of es)).effects
  deq_can [] row = tt
  deq_can (e ∷ es) row = (remove_can unit rs (Item e.1) (item_holder e es row), tt)

  queue_can : (items : List ℕ) (op : Op) → HasItems rs items → HasSerial rs op → AllCanWrite unit rs (queue_step items op).effects
  queue_can items (ops.Enq u x) h serial = (insert_can unit rs (Item x) (item_body serial.0 x) (serial.0, refl, serial.1), tt)
  queue_can items (ops.Deq u) h serial = subst (λ (xs : List ℕ). AllCanWrite unit rs (queue_deq xs).effects) (sym h.2)
      (deq_can (finite.entries h.0) (row_shown rs h.0 h.1))
  queue_can items _ h serial = tt

  -- ---- graphs
  module _ (g : Graph) (has : HasGraph rs g) where
    vertex_holder : (v old a : ℕ) → finite.get g.vertices v ≡ Some old → HasHolder unit rs (Vertex v a)
    vertex_holder v old a e =
        let b = has.parts.there (AtVertex v) old e in
        let h = holding unit rs part_for b.0 (AtVertex v, old) b.1 in
        record { holder = h.0; live = h.1; named = (old, by h.0.body (part_cases h.0.body (AtVertex v, old) h.2)) }
      where
        by : (body : List ℕ) → IsVertexPart body (AtVertex v, old) ⊎ IsEdgePart body (AtVertex v, old) → vertex_in body ≡ Some (v, old)
        by body (inl p) = p.read ∙ (λ i. Some (vertex_name (sym (p.is) i).0, (sym p.is i).1))
          where
            vertex_name : Part → ℕ
            vertex_name (AtVertex w) = w
            vertex_name (AtEdge e) = v
        by body (inr p) = let f : AtVertex v ≡ AtEdge p.edge.0 = ap (λ (x : Part × ℕ). x.0) p.is in absurd (cc)

    edge_holder : (d : Ends) (old a : ℕ) → finite.get g.edges d ≡ Some old → HasHolder unit rs (edge_thing (d, a))
    edge_holder d old a e =
        let b = has.parts.there (AtEdge d) old e in
        let h = holding unit rs part_for b.0 (AtEdge d, old) b.1 in
        record { holder = h.0; live = h.1; named = (old, by h.0.body (part_cases h.0.body (AtEdge d, old) h.2)) }
      where
        by : (body : List ℕ) → IsVertexPart body (AtEdge d, old) ⊎ IsEdgePart body (AtEdge d, old) → edge_in body ≡ Some (d, old)
        by body (inl p) = let f : AtEdge d ≡ AtVertex p.vertex.0 = ap (λ (x : Part × ℕ). x.0) p.is in absurd (cc)
        by body (inr p) = p.read ∙ (λ i. Some (edge_name (sym (p.is) i).0, (sym p.is i).1))
          where
            edge_name : Part → Ends
            edge_name (AtVertex w) = d
            edge_name (AtEdge e) = e

    -- an edge that stands among the entries is found there
    entry_get : (es : List (Ends × ℕ)) (e : Ends × ℕ) → T (is_sorted edge_cmp es) → Contains es e → find edge_cmp e.0 es ≡ Some e.1
    entry_get [] e sorted a = absurd (no_element e a)
    entry_get (d ∷ es) e sorted a = by (element_cases d es e a) (λ b. entry_get es e (second _ _ sorted) b)
      where
        same : e ≡ d → find edge_cmp e.0 (d ∷ es) ≡ Some e.1
        same is = ap (λ (t : Bool). cond t (Some d.1) (find edge_cmp e.0 es)) ((one_edge e.0 d.0).1 (ap (λ (x : Ends × ℕ). x.0) is))
            ∙ ap (λ (x : Ends × ℕ). Some x.1) (sym is)

        other : (t : Bool) → eq_by_cmp edge_cmp e.0 d.0 ≡ t → find edge_cmp e.0 es ≡ Some e.1
            → cond t (Some d.1) (find edge_cmp e.0 es) ≡ Some e.1
        other true f g = let none : find edge_cmp e.0 es ≡ None = ap (λ (k : Ends). find edge_cmp k es) ((one_edge e.0 d.0).0 f)
            ∙ find_below edge_cmp d.0 es (first _ _ sorted) in absurd (cc)
        other false f g = g

        by : (e ≡ d) ⊎ Contains es e → (Contains es e → find edge_cmp e.0 es ≡ Some e.1) → find edge_cmp e.0 (d ∷ es) ≡ Some e.1
        by (inl is) rest = same is
        by (inr b) rest = other (eq_by_cmp edge_cmp e.0 d.0) refl (rest b)

    removals_can : (v a : ℕ) → HasHolder unit rs (Vertex v a) → (es : List (Ends × ℕ))
        → ((e : Ends × ℕ) → Contains es e → finite.get g.edges e.0 ≡ Some e.1)
        → AllCanWrite unit rs (map (λ (e : Ends × ℕ). Removes (edge_thing e)) es ++ Removes (Vertex v a) ∷ [])
    removals_can v a h [] there = (remove_can unit rs (Vertex v a) h, tt)
    removals_can v a h (e ∷ es) there = (
      remove_can unit rs (edge_thing e) (edge_holder e.0 e.1 e.1 (there e (first_element e es))),
      removals_can v a h es
          (λ d b. there d (later_element e es d b)),
    )

    set_vertex_can : (v a : ℕ) (t : Bool) → finite.contains_key g.vertices v ≡ t → AllCanWrite unit rs (set_effects t (Vertex v a))
    set_vertex_can v a true e = let b = some_there (finite.get g.vertices v) e in
        (replace_can unit rs (Vertex v a) (vertex_body v a) (vertex_holder v b.0 a b.1) refl, tt)
    set_vertex_can v a false e = (insert_can unit rs (Vertex v a) (vertex_body v a) refl, tt)

    set_edge_can : (d : Ends) (a : ℕ) (t : Bool) → finite.contains_key g.edges d ≡ t
        → AllCanWrite unit rs (set_effects t (edge_thing (d, a)))
    set_edge_can d a true e = let b = some_there (finite.get g.edges d) e in
        (replace_can unit rs (edge_thing (d, a)) (edge_body d a) (edge_holder d b.0 a b.1) refl, tt)
    set_edge_can d a false e = (insert_can unit rs (edge_thing (d, a)) (edge_body d a) refl, tt)

    delv_can : (v : ℕ) (o : Option ℕ) → finite.get g.vertices v ≡ o → AllCanWrite unit rs (del_vertex g v o).effects
    delv_can v None e = tt
    delv_can v (Some a) e = removals_can v a (vertex_holder v a a e) (edges_at g v)
        (λ d b. finite.get-entries g.edges d.0 ∙ entry_get (finite.entries g.edges) d (finite.entries_sorted g.edges)
        (kept_element (λ (e : Ends × ℕ). touches v e.0) d (finite.entries g.edges) b).0)

    adde_can : (d : Ends) (a : ℕ) (t : Bool) → AllCanWrite unit rs (add_edge g d a t).effects
    adde_can d a true = set_edge_can d a (finite.contains_key g.edges d) refl
    adde_can d a false = tt

    dele_can : (d : Ends) (o : Option ℕ) → finite.get g.edges d ≡ o → AllCanWrite unit rs (del_edge g d o).effects
    dele_can d None e = tt
    dele_can d (Some a) e = (remove_can unit rs (edge_thing (d, a)) (edge_holder d a a e), tt)

    graph_can : (op : Op) → AllCanWrite unit rs (graph_step g op).effects
    graph_can (ops.AddV u v a) = set_vertex_can v a (finite.contains_key g.vertices v) refl
    graph_can (ops.DelV u v) = delv_can v (finite.get g.vertices v) refl
    graph_can (ops.AddE u from to a) = adde_can (from, to) a (can_join g.vertices (from, to))
    graph_can (ops.DelE u from to) = dele_can (from, to) (finite.get g.edges (from, to)) refl
    graph_can _ = tt

  pub step_can : (s : Shape) (state : State) (op : Op) → HasSerial rs op → HasThings s unit rs state
      → AllCanWrite unit rs (step state op).effects
  step_can s (MapOf m) op serial h = map_can unit rs s m h op
  step_can s (QueueOf items) op serial h = queue_can items op h serial
  step_can s (GraphOf g) op serial h = graph_can g h op

-- in any slots and at any epoch
pub step_written : (s : Shape) (unit epoch : ℕ) (slots : List ℕ) (rs : List Held) (state : State) (op : Op) → HasSerial rs op
    → HasStructure s unit rs state → length slots ≡ length (step state op).effects
    → (ws : List Held) × AreWrittenAt epoch slots ws × AreEffects unit rs (step state op).effects ws
step_written s unit epoch slots rs state op serial h long = write_all unit rs epoch (step state op).effects slots long
    (step_can unit rs s state op serial h.things)
