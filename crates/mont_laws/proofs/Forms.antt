-- What the effects of an operation look like: none, one, or the removal of different parts of a graph.
use Rattle.std.proofs.Common.{◌≡◌, ℕ, List, [], ◌∷◌, ◌++◌, map, refl, ap, Bool, true, false, cond, inl, inr, ◌⊎◌}
use Rattle.std.specs.Prelude.{◌≢◌, Option, Some, None, T, filter}
use Rattle.std.specs.declared.cmp.Ordering.{Ordering}
use Rattle.std.specs.declared.cmp.Ordering.TheVariants.{Less, Equal, Greater}
use Rattle.std.specs.Ordering.{is_lt, is_eq}
use Rattle.std.specs.FinMap as finite
use Rattle.std.specs.FinMap.{is_sorted}
use Rattle.std.specs.FinMap.Entries.{below_all}
use Rattle.mont_base.specs.declared.operation.Op.{Op}
use Rattle.mont_base.specs.declared.operation.Op.TheVariants as ops
use Rattle.mont_base.specs.declared.effect.Thing.{Thing}
use Rattle.mont_base.specs.declared.effect.Thing.TheVariants.{Vertex}
use Rattle.mont_base.specs.declared.effect.Effect.{Effect}
use Rattle.mont_base.specs.declared.effect.Effect.TheVariants.{Removes}
use Rattle.mont_base.specs.State.{State, MapOf, QueueOf, GraphOf, Value, Pairs, Ends, Graph, edge_cmp, touches, edge_thing, edges_at, set_effects, can_join, map_del, map_step, queue_deq, queue_step, del_vertex, add_edge, del_edge, graph_step, step}
use Rattle.mont_laws.proofs.Keys.{one_edge}
use Rattle.mont_laws.proofs.Rows.{first, second}
use Rattle.mont_laws.proofs.Removals.{AllOther, ApartParts}

-- one effect at most, or removals
abbrev pub HaveForm : List Effect → Type 0
HaveForm effects = (effects ≡ []) ⊎ (((e : Effect) × (effects ≡ e ∷ [])) ⊎ ((ts : List Thing) × ApartParts ts × (effects ≡ map Removes ts)))

alone : (e : Effect) → HaveForm (e ∷ [])
alone e = inr (inl (e, refl))

none : HaveForm []
none = inl refl

-- ---- a vertex with its edges
abbrev pub removals : List (Ends × ℕ) → ℕ → ℕ → List Thing
removals es vertex attribute = map edge_thing es ++ Vertex vertex attribute ∷ []

below_apart : (d e : Ends) → T (is_lt (edge_cmp d e)) → d ≢ e
below_apart d e h is = by (edge_cmp d e) ((one_edge d e).1 is) h
  where
    by : (o : Ordering) → is_eq o ≡ true → T (is_lt o) → ⊥
    by Less f h = absurd (cc)
    by Equal f h = h
    by Greater f h = h

module _ (p : Ends × ℕ → Bool) (vertex attribute : ℕ) where
  later_removals : (d : Ends × ℕ) (es : List (Ends × ℕ)) → T (below_all edge_cmp d.0 es)
      → AllOther (edge_thing d) (removals (filter p es) vertex attribute)
  later_removals d [] h = (tt, tt)
  later_removals d (e ∷ es) h = by (p e) (later_removals d es (second _ _ h))
    where
      by : (t : Bool) → AllOther (edge_thing d) (removals (filter p es) vertex attribute)
          → AllOther (edge_thing d) (removals (cond t (e ∷ filter p es) (filter p es)) vertex attribute)
      by true rest = (below_apart d.0 e.0 (first _ _ h), rest)
      by false rest = rest

  apart_removals : (es : List (Ends × ℕ)) → T (is_sorted edge_cmp es) → ApartParts (removals (filter p es) vertex attribute)
  apart_removals [] h = (tt, tt)
  apart_removals (e ∷ es) h = by (p e) (apart_removals es (second _ _ h))
    where
      by : (t : Bool) → ApartParts (removals (filter p es) vertex attribute)
          → ApartParts (removals (cond t (e ∷ filter p es) (filter p es)) vertex attribute)
      by true rest = (later_removals e es (first _ _ h), rest)
      by false rest = rest

-- the effects are those removals
pub are_removals : (es : List (Ends × ℕ)) (vertex attribute : ℕ)
    → map (λ (e : Ends × ℕ). Removes (edge_thing e)) es ++ Removes (Vertex vertex attribute) ∷ [] ≡ map Removes
    (removals es vertex attribute)
are_removals [] vertex attribute = refl
are_removals (e ∷ es) vertex attribute = ap (λ (fs : List Effect). Removes (edge_thing e) ∷ fs) (are_removals es vertex attribute)

pub apart_edges : (g : Graph) (vertex attribute : ℕ) → ApartParts (removals (edges_at g vertex) vertex attribute)
apart_edges g vertex attribute = apart_removals (λ (e : Ends × ℕ). touches vertex e.0) vertex attribute (finite.entries g.edges)
    (finite.entries_sorted g.edges)

-- ---- each operation
set_form : (t : Bool) (thing : Thing) → HaveForm (set_effects t thing)
set_form true thing = alone _
set_form false thing = alone _

map_del_form : (m : Pairs) (key : Value) (o : Option Value) → HaveForm (map_del m key o).effects
map_del_form m key None = none
map_del_form m key (Some value) = alone _

map_form : (m : Pairs) (op : Op) → HaveForm (map_step m op).effects
map_form m (ops.Put key value) = set_form (finite.contains_key m key) _
map_form m (ops.Del key) = map_del_form m key (finite.get m key)
map_form m (ops.OPut unit key value) = set_form (finite.contains_key m key) _
map_form m (ops.ODel unit key) = map_del_form m key (finite.get m key)
map_form m _ = none

deq_form : (items : List ℕ) → HaveForm (queue_deq items).effects
deq_form [] = none
deq_form (item ∷ items) = alone _

queue_form : (items : List ℕ) (op : Op) → HaveForm (queue_step items op).effects
queue_form items (ops.Enq unit item) = alone _
queue_form items (ops.Deq unit) = deq_form items
queue_form items _ = none

del_vertex_form : (g : Graph) (vertex : ℕ) (o : Option ℕ) → HaveForm (del_vertex g vertex o).effects
del_vertex_form g vertex None = none
del_vertex_form g vertex (Some attribute) = inr
    (inr (
      removals (edges_at g vertex) vertex attribute,
      apart_edges g vertex attribute,
      are_removals
          (edges_at g vertex) vertex attribute,
    ))

add_edge_form : (g : Graph) (e : Ends) (attribute : ℕ) (t : Bool) → HaveForm (add_edge g e attribute t).effects
add_edge_form g e attribute true = set_form (finite.contains_key g.edges e) _
add_edge_form g e attribute false = none

del_edge_form : (g : Graph) (e : Ends) (o : Option ℕ) → HaveForm (del_edge g e o).effects
del_edge_form g e None = none
del_edge_form g e (Some attribute) = alone _

graph_form : (g : Graph) (op : Op) → HaveForm (graph_step g op).effects
graph_form g (ops.AddV unit vertex attribute) = set_form (finite.contains_key g.vertices vertex) _
graph_form g (ops.DelV unit vertex) = del_vertex_form g vertex (finite.get g.vertices vertex)
graph_form g (ops.AddE unit from to attribute) = add_edge_form g (from, to) attribute (can_join g.vertices (from, to))
graph_form g (ops.DelE unit from to) = del_edge_form g (from, to) (finite.get g.edges (from, to))
graph_form g _ = none

pub step_form : (state : State) (op : Op) → HaveForm (step state op).effects
step_form (MapOf m) op = map_form m op
step_form (QueueOf items) op = queue_form items op
step_form (GraphOf g) op = graph_form g op
