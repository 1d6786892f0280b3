-- A plan is the plain step on the graph of the attributes.
use Rattle.std.proofs.Common.{◌≡◌, ℕ, suc, Bool, true, false, List, [], ◌∷◌, ◌++◌, map, length, refl, sym, ap, ◌∙◌}
use Rattle.std.specs.Prelude.{◌≢◌, Option, Some, None, is_some, option_map}
use Rattle.std.specs.FinMap as finite
use Rattle.mont_base.specs.declared.effect.Effect.{Effect}
use Rattle.mont_base.specs.declared.effect.Effect.TheVariants.{Removes}
use Rattle.mont_base.specs.declared.effect.Thing.TheVariants.{Vertex}
use Rattle.mont_base.specs.declared.operation.Op.{Op}
use Rattle.mont_base.specs.declared.operation.Op.TheVariants as ops
use Rattle.mont_base.specs.declared.operation.Reply.TheVariants.{Count, NoEnds}
use Rattle.mont_base.specs.State.{Ends, GraphOf, earlier, edge_thing, set_effects, graph_step, add_edge, del_vertex, del_edge, degree, can_join}
use Rattle.pgraph.specs.declared.node.Name.TheVariants as names
use Rattle.pgraph.specs.declared.node.Node.{Node}
use Rattle.pgraph.specs.GraphIndex.{Nodes, nodes_at, degree_of, joins, graph_in}
use Rattle.pgraph.specs.GraphEdit.{effects_of, edge_effect, graph_behind}
use Rattle.pgraph.specs.GraphPlan.{setting_plan, removing_plan, earlier_of, counted, looked_up}
use Rattle.pgraph.proofs.Attributes.{attribute_entry, vertex_attribute, edge_attribute, vertex_there, edge_there, graph_joins, graph_edges_at}

edge_effects : (es : List (Ends × Node)) → map edge_effect es ≡ map (λ (e : Ends × ℕ). Removes (edge_thing e)) (map attribute_entry es)
edge_effects [] = refl
edge_effects (e ∷ es) = ap (λ (xs : List Effect). edge_effect e ∷ xs) (edge_effects es)

as_many_entries : (es : List (Ends × Node)) → length es ≡ length (map attribute_entry es)
as_many_entries [] = refl
as_many_entries (e ∷ es) = ap suc (as_many_entries es)

module _ (n : Nodes) where
  pub addv_reply : (v : ℕ) → earlier_of (finite.get n.vertices v) ≡ earlier (finite.get (graph_in n).vertices v)
  addv_reply v = ap earlier (sym (vertex_attribute n v))

  pub addv_effects : (v a : ℕ) → set_effects (is_some (finite.get n.vertices v)) (Vertex v a)
      ≡ set_effects (finite.contains_key (graph_in n).vertices v) (Vertex v a)
  addv_effects v a = ap (λ (t : Bool). set_effects t (Vertex v a)) (sym (vertex_there n v))

  delv_at : (v : ℕ) (o : Option Node) (p : Option ℕ) → p ≡ option_map (λ (x : Node). x.attribute) o
      → ((removing_plan (names.Vertex v) o).reply ≡ (del_vertex (graph_in n) v p).reply)
      × (effects_of n (removing_plan (names.Vertex v) o).edit ≡ (del_vertex (graph_in n) v p).effects)
  delv_at v None p e = rw e (refl, refl)
  delv_at v (Some x) p e = rw e (
    refl,
    ap (λ (es : List Effect). es ++ Removes (Vertex v x.attribute) ∷ [])
        (edge_effects (nodes_at n v) ∙ ap (map (λ (e : Ends × ℕ). Removes (edge_thing e))) (sym (graph_edges_at n v))),
  )

  pub delv_step : (v : ℕ)
      → ((removing_plan (names.Vertex v) (finite.get n.vertices v)).reply
      ≡ (del_vertex (graph_in n) v (finite.get (graph_in n).vertices v)).reply)
      × (effects_of n (removing_plan (names.Vertex v) (finite.get n.vertices v)).edit
      ≡ (del_vertex (graph_in n) v (finite.get (graph_in n).vertices v)).effects)
  delv_step v = delv_at v (finite.get n.vertices v) (finite.get (graph_in n).vertices v) (vertex_attribute n v)

  delv_graph : (v : ℕ) (o : Option Node) (p : Option ℕ) → p ≡ option_map (λ (x : Node). x.attribute) o
      → (del_vertex (graph_in n) v p).state ≡ GraphOf (graph_behind (graph_in n) (removing_plan (names.Vertex v) o).edit)
  delv_graph v None p e = rw e refl
  delv_graph v (Some x) p e = rw e refl

  pub delv_state : (v : ℕ) → (del_vertex (graph_in n) v (finite.get (graph_in n).vertices v)).state
      ≡ GraphOf (graph_behind (graph_in n) (removing_plan (names.Vertex v) (finite.get n.vertices v)).edit)
  delv_state v = delv_graph v (finite.get n.vertices v) (finite.get (graph_in n).vertices v) (vertex_attribute n v)

  pub adde_reply : (e : Ends) (a : ℕ) → joins n e ≡ true
      → earlier_of (finite.get n.edges e) ≡ (add_edge (graph_in n) e a (can_join (graph_in n).vertices e)).reply
  adde_reply e a h = ap earlier (sym (edge_attribute n e)) ∙ sym
      (ap (λ (t : Bool). (add_edge (graph_in n) e a t).reply) (graph_joins n e ∙ h))

  pub adde_effects : (e : Ends) (a : ℕ) → joins n e ≡ true → set_effects (is_some (finite.get n.edges e)) (edge_thing (e, a))
      ≡ (add_edge (graph_in n) e a (can_join (graph_in n).vertices e)).effects
  adde_effects e a h = ap (λ (t : Bool). set_effects t (edge_thing (e, a))) (sym (edge_there n e))
      ∙ sym (ap (λ (t : Bool). (add_edge (graph_in n) e a t).effects) (graph_joins n e ∙ h))

  pub adde_state : (e : Ends) (a : ℕ) → joins n e ≡ true → (add_edge (graph_in n) e a (can_join (graph_in n).vertices e)).state
      ≡ GraphOf (graph_behind (graph_in n) (setting_plan (names.Edge e) a (finite.get n.edges e)).edit)
  adde_state e a h = ap (λ (t : Bool). (add_edge (graph_in n) e a t).state) (graph_joins n e ∙ h)

  pub no_ends_state : (e : Ends) (a : ℕ) → joins n e ≡ false
      → (add_edge (graph_in n) e a (can_join (graph_in n).vertices e)).state ≡ GraphOf (graph_in n)
  no_ends_state e a h = ap (λ (t : Bool). (add_edge (graph_in n) e a t).state) (graph_joins n e ∙ h)

  pub no_ends : (e : Ends) (a : ℕ) → joins n e ≡ false
      → (NoEnds ≡ (add_edge (graph_in n) e a (can_join (graph_in n).vertices e)).reply)
      × ([] ≡ (add_edge (graph_in n) e a (can_join (graph_in n).vertices e)).effects)
  no_ends e a h = rw (graph_joins n e ∙ h) (refl, refl)

  dele_at : (e : Ends) (o : Option Node) (p : Option ℕ) → p ≡ option_map (λ (x : Node). x.attribute) o
      → ((removing_plan (names.Edge e) o).reply ≡ (del_edge (graph_in n) e p).reply)
      × (effects_of n (removing_plan (names.Edge e) o).edit ≡ (del_edge (graph_in n) e p).effects)
  dele_at e None p f = rw f (refl, refl)
  dele_at e (Some x) p f = rw f (refl, refl)

  pub dele_step : (e : Ends)
      → ((removing_plan (names.Edge e) (finite.get n.edges e)).reply ≡ (del_edge (graph_in n) e (finite.get (graph_in n).edges e)).reply)
      × (effects_of n (removing_plan (names.Edge e) (finite.get n.edges e)).edit
      ≡ (del_edge (graph_in n) e (finite.get (graph_in n).edges e)).effects)
  dele_step e = dele_at e (finite.get n.edges e) (finite.get (graph_in n).edges e) (edge_attribute n e)

  dele_graph : (e : Ends) (o : Option Node) (p : Option ℕ) → p ≡ option_map (λ (x : Node). x.attribute) o
      → (del_edge (graph_in n) e p).state ≡ GraphOf (graph_behind (graph_in n) (removing_plan (names.Edge e) o).edit)
  dele_graph e None p f = rw f refl
  dele_graph e (Some x) p f = rw f refl

  pub dele_state : (e : Ends) → (del_edge (graph_in n) e (finite.get (graph_in n).edges e)).state
      ≡ GraphOf (graph_behind (graph_in n) (removing_plan (names.Edge e) (finite.get n.edges e)).edit)
  dele_state e = dele_graph e (finite.get n.edges e) (finite.get (graph_in n).edges e) (edge_attribute n e)

  pub degree_reply : (v : ℕ) → counted (degree_of n v) ≡ degree (graph_in n) v (finite.contains_key (graph_in n).vertices v)
  degree_reply v = by (finite.get n.vertices v) (vertex_there n v)
    where
      by : (o : Option Node) → finite.contains_key (graph_in n).vertices v ≡ is_some o
          → counted (option_map (λ (x : Node). length (nodes_at n v)) o)
          ≡ degree (graph_in n) v (finite.contains_key (graph_in n).vertices v)
      by None f = rw f refl
      by (Some x) f = rw f (ap (λ k. Count k) (as_many_entries (nodes_at n v) ∙ ap length (sym (graph_edges_at n v))))

-- what is looked up is the plain step's reply, which changes nothing
pub record IsLookedUp (n : Nodes) (op : Op) : Type 0 where
  pub reply : looked_up n op ≡ (graph_step (graph_in n) op).reply
  pub effects : [] ≡ (graph_step (graph_in n) op).effects
  pub state : (graph_step (graph_in n) op).state ≡ GraphOf (graph_in n)

pub look_step : (n : Nodes) (op : Op) → ((u v a : ℕ) → op ≢ ops.AddV u v a) → ((u v : ℕ) → op ≢ ops.DelV u v)
    → ((u from to a : ℕ) → op ≢ ops.AddE u from to a) → ((u from to : ℕ) → op ≢ ops.DelE u from to) → IsLookedUp n op
look_step n (ops.AddV u v a) addv delv adde dele = absurd (addv u v a refl)
look_step n (ops.DelV u v) addv delv adde dele = absurd (delv u v refl)
look_step n (ops.AddE u from to a) addv delv adde dele = absurd (adde u from to a refl)
look_step n (ops.DelE u from to) addv delv adde dele = absurd (dele u from to refl)
look_step n (ops.Vertex u v) addv delv adde dele = record { reply = addv_reply n v; effects = refl; state = refl }
look_step n (ops.Degree u v) addv delv adde dele = record { reply = degree_reply n v; effects = refl; state = refl }
look_step n _ addv delv adde dele = record { reply = refl; effects = refl; state = refl }
