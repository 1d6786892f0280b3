-- An operation inserts one object at most, and what is counted is there.
use Rattle.std.proofs.Common.{◌≡◌, ℕ, suc, ◌+◌, ◌≤◌, Bool, true, false, cond, List, [], ◌∷◌, ◌++◌, map, refl, arith}
use Rattle.std.specs.Prelude.{count_by, Any, Option, Some, None}
use Rattle.std.specs.FinMap as finite
use Rattle.std.proofs.lemmas.List.Sums.{sum_by-cons}
use Rattle.mont_base.specs.declared.effect.Effect.{Effect}
use Rattle.mont_base.specs.declared.effect.Effect.TheVariants.{Inserts, Replaces, Removes}
use Rattle.mont_base.specs.declared.effect.Thing.{Thing}
use Rattle.mont_base.specs.declared.effect.Thing.TheVariants.{Pair, Item, Vertex}
use Rattle.mont_base.specs.declared.operation.Op.{Op}
use Rattle.mont_base.specs.declared.operation.Op.TheVariants as ops
use Rattle.mont_base.specs.Counting.{is_insertion}
use Rattle.mont_base.specs.State.{State, MapOf, QueueOf, GraphOf, Graph, Ends, Pairs, Key, Value, step, set_effects, map_del, queue_deq, del_vertex, add_edge, del_edge, edge_thing, edges_at, can_join}

counted_cons : (e : Effect) (es : List Effect) → count_by is_insertion (e ∷ es) ≡ cond (is_insertion e) 1 0 + count_by is_insertion es
counted_cons e es = sum_by-cons (λ (x : Effect). cond (is_insertion x) 1 0) e es

one_renewed : (e : Effect) → is_insertion e ≡ false → count_by is_insertion (e ∷ []) ≤ 1
one_renewed (Inserts thing) none = absurd (cc)
one_renewed (Replaces thing) none = let c = counted_cons (Replaces thing) [] in omega arith
one_renewed (Removes thing) none = let c = counted_cons (Removes thing) [] in omega arith

one_set : (there : Bool) (thing : Thing) → count_by is_insertion (set_effects there thing) ≤ 1
one_set true thing = one_renewed (Replaces thing) refl
one_set false thing = let c = counted_cons (Inserts thing) [] in omega arith

none_deleted : (m : Pairs) (key : Key) (o : Option Value) → count_by is_insertion (map_del m key o).effects ≤ 1
none_deleted m key None = omega arith
none_deleted m key (Some value) = one_renewed (Removes (Pair key value)) refl

none_dequeued : (items : List ℕ) → count_by is_insertion (queue_deq items).effects ≤ 1
none_dequeued [] = omega arith
none_dequeued (item ∷ items) = one_renewed (Removes (Item item)) refl

edges_apart : (es : List (Ends × ℕ)) (rest : List Effect)
    → count_by is_insertion (map (λ e. Removes (edge_thing e)) es ++ rest) ≡ count_by is_insertion rest
edges_apart [] rest = refl
edges_apart (e ∷ es) rest =
    let c = counted_cons (Removes (edge_thing e)) (map (λ e. Removes (edge_thing e)) es ++ rest) in
    let more = edges_apart es rest in omega arith

none_isolated : (g : Graph) (vertex : ℕ) (o : Option ℕ) → count_by is_insertion (del_vertex g vertex o).effects ≤ 1
none_isolated g vertex None = omega arith
none_isolated g vertex (Some attribute) =
    let edges = edges_apart (edges_at g vertex) (Removes (Vertex vertex attribute) ∷ []) in
    let last = one_renewed (Removes (Vertex vertex attribute)) refl in omega arith

one_joined : (g : Graph) (e : Ends) (attribute : ℕ) (joins : Bool) → count_by is_insertion (add_edge g e attribute joins).effects ≤ 1
one_joined g e attribute false = omega arith
one_joined g e attribute true = one_set (finite.contains_key g.edges e) (edge_thing (e, attribute))

none_cut : (g : Graph) (e : Ends) (o : Option ℕ) → count_by is_insertion (del_edge g e o).effects ≤ 1
none_cut g e None = omega arith
none_cut g e (Some attribute) = one_renewed (Removes (edge_thing (e, attribute))) refl

pub few_inserted : (state : State) (op : Op) → count_by is_insertion (step state op).effects ≤ 1
few_inserted (MapOf m) (ops.Put key value) = one_set (finite.contains_key m key) (Pair key value)
few_inserted (MapOf m) (ops.Del key) = none_deleted m key (finite.get m key)
few_inserted (MapOf m) (ops.OPut unit key value) = one_set (finite.contains_key m key) (Pair key value)
few_inserted (MapOf m) (ops.ODel unit key) = none_deleted m key (finite.get m key)
few_inserted (MapOf m) _ = omega arith
few_inserted (QueueOf items) (ops.Enq unit item) = let c = counted_cons (Inserts (Item item)) [] in omega arith
few_inserted (QueueOf items) (ops.Deq unit) = none_dequeued items
few_inserted (QueueOf items) _ = omega arith
few_inserted (GraphOf g) (ops.AddV unit vertex attribute) = one_set (finite.contains_key g.vertices vertex) (Vertex vertex attribute)
few_inserted (GraphOf g) (ops.DelV unit vertex) = none_isolated g vertex (finite.get g.vertices vertex)
few_inserted (GraphOf g) (ops.AddE unit from to attribute) = one_joined g (from, to) attribute (can_join g.vertices (from, to))
few_inserted (GraphOf g) (ops.DelE unit from to) = none_cut g (from, to) (finite.get g.edges (from, to))
few_inserted (GraphOf g) _ = omega arith

-- an effect that is counted is there
pub some_counted : (p : Effect → Bool) (es : List Effect) → 1 ≤ count_by p es → Any (λ (e : Effect). p e ≡ true) es
some_counted p [] some = absurd (omega arith)
some_counted p (e ∷ es) some =
    by (p e) refl (sum_by-cons (λ (x : Effect). cond (p x) 1 0) e es) (some_counted p es)
  where
    by : (t : Bool) → p e ≡ t → count_by p (e ∷ es) ≡ cond t 1 0 + count_by p es
        → (1 ≤ count_by p es → Any (λ (e : Effect). p e ≡ true) es) → Any (λ (x : Effect). p x ≡ true) (e ∷ es)
    by true is many more = (0, e, omega arith, refl, is)
    by false is many more =
        let m = more (omega (arith, many, some)) in (suc m.0, m.1, omega (arith, m.2), m.3, m.4)
