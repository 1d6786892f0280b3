-- An edge put after its ends, and taken from after them.
use Rattle.std.proofs.Common.{◌≡◌, ℕ, ◌==◌, Bool, true, false, cond, List, refl, sym, ap, subst, ◌∙◌, arith}
use Rattle.std.specs.Prelude.{◌&&◌, ◌||◌, not, Option, Some, None, option_map, Result, Ok, Err, OnErr}
use Rattle.std.specs.Cmp.{unsigned_tied}
use Rattle.std.specs.Ordering.{nat_cmp}
use Rattle.std.specs.List.{list_any}
use Rattle.std.proofs.lemmas.Bool.Decides.{nat_tests}
use Rattle.std.specs.BTreeMap.{is_at}
use Rattle.std.specs.BTreeSet.{contains}
use Rattle.mont_base.specs.State.{Ends, edge_cmp, touches}
use Rattle.mont_laws.proofs.Keys.{one_edge, one_number}
use Rattle.pgraph.specs.declared.node.Node.{Node}
use Rattle.pgraph.specs.declared.node.VertexNode.{VertexNode}
use Rattle.pgraph.specs.Shelf.{value_of, SetsValue}
use Rattle.pgraph.specs.GraphIndex.{Nodes, IsIndex, nodes_in, Relists, Lists, Unlists, KeepsListed, IsUnlisted, node_in, stands_behind, at_vertex, at_ends, same_ends}
use Rattle.pgraph.proofs.NodeMaps.{behind_set, nodes_same, vertices_kept}
use Rattle.pgraph.proofs.IndexKept.{index_same}

option_twice : {A : Type 0} (f g : A → A) (o : Option A) → option_map g (option_map f o) ≡ option_map (λ (a : A). g (f a)) o
option_twice f g None = refl
option_twice f g (Some a) = refl

option_alike : {A : Type 0} (f g : A → A) (o : Option A) → ((a : A) → o ≡ Some a → f a ≡ g a) → option_map f o ≡ option_map g o
option_alike f g None h = refl
option_alike f g (Some a) h = ap Some (h a refl)

-- one change after another
pub relists_twice : (f g h : ℕ → Ends → Bool → Bool) (vs ws xs : List (ℕ × VertexNode)) → Relists f vs ws → Relists g ws xs
    → ((v : ℕ) (q : Ends) (b : Bool) → stands_behind vs v q ≡ Some b → g v q (f v q b) ≡ h v q b) → Relists h vs xs
relists_twice f g h vs ws xs first then alike = record {
  nodes = λ v. then.nodes v ∙ first.nodes v;
  behind = λ v q. then.behind v q ∙ ap (option_map (g v q)) (first.behind v q)
      ∙ option_twice (f v q) (g v q) (stands_behind vs v q)
      ∙ option_alike (λ (b : Bool). g v q (f v q b)) (h v q) (stands_behind vs v q) (alike v q);
}

-- one vertex has another set
pub set_relists : (f : ℕ → Ends → Bool → Bool) (vs ws : List (ℕ × VertexNode)) (v : ℕ) (x y : VertexNode) → Some x ≡ value_of nat_cmp vs v
    → SetsValue nat_cmp vs ws v (Some y) → y.node ≡ x.node
    → ((q : Ends) → contains edge_cmp y.ends q ≡ f v q (contains edge_cmp x.ends q))
    → ((u : ℕ) (q : Ends) (b : Bool) → (v == u) ≡ false → f u q b ≡ b) → Relists f vs ws
set_relists f vs ws v x y is sets node here others = record {
  nodes = λ u. ap (option_map (λ (n : VertexNode). n.node)) (sets u) ∙ nodes u (is_at (nat_cmp v) u) refl;
  behind = λ u q. behind_set vs ws v (Some y) sets u q ∙ behind u q (is_at (nat_cmp v) u) refl;
}
  where
    nodes : (u : ℕ) (t : Bool) → is_at (nat_cmp v) u ≡ t
        → option_map (λ (n : VertexNode). n.node) (cond t (Some y) (value_of nat_cmp vs u)) ≡ node_in vs u
    nodes u true e = ap Some node ∙ ap (option_map (λ (n : VertexNode). n.node)) is ∙ ap (node_in vs) ((one_number v u).0 e)
    nodes u false e = refl

    unchanged : (u : ℕ) (q : Ends) (o : Option Bool) → (v == u) ≡ false → o ≡ option_map (f u q) o
    unchanged u q None e = refl
    unchanged u q (Some b) e = ap Some (sym (others u q b e))

    behind : (u : ℕ) (q : Ends) (t : Bool) → is_at (nat_cmp v) u ≡ t
        → cond t (Some (contains edge_cmp y.ends q)) (stands_behind vs u q) ≡ option_map (f u q) (stands_behind vs u q)
    behind u q true e = ap Some (here q)
        ∙ ap (λ (o : Option VertexNode). option_map (f v q) (option_map (λ (n : VertexNode). contains edge_cmp n.ends q) o)) is
        ∙ ap (λ (w : ℕ). option_map (f w q) (stands_behind vs w q)) ((one_number v u).0 e)
    behind u q false e = unchanged u q (stands_behind vs u q) (sym (unsigned_tied v u) ∙ e)

-- ---- at one vertex
self_equal : (v : ℕ) → (v == v) ≡ true
self_equal v = grind (arith, nat_tests)

module _ (vs ws : List (ℕ × VertexNode)) (v : ℕ) (x y : VertexNode) (is : Some x ≡ value_of nat_cmp vs v)
    (sets : SetsValue nat_cmp vs ws v (Some y)) (node : y.node ≡ x.node) where
  pub lists_here : (e : Ends) → ((q : Ends) → contains edge_cmp y.ends q ≡ cond (is_at (edge_cmp e) q) true (contains edge_cmp x.ends q))
      → Lists (at_vertex v e) vs ws
  lists_here e here = set_relists (λ u q b. at_vertex v e u q || b) vs ws v x y is sets node
      (λ q. here q ∙ by (same_ends e q) (contains edge_cmp x.ends q)
      ∙ ap (λ (t : Bool). (t && same_ends e q) || contains edge_cmp x.ends q) (sym (self_equal v)))
      (λ u q b f. ap (λ (t : Bool). (t && same_ends e q) || b) f)
    where
      by : (s b : Bool) → cond s true b ≡ ((true && s) || b)
      by true b = refl
      by false b = refl

  pub unlists_here : (e : Ends)
      → ((q : Ends) → contains edge_cmp y.ends q ≡ cond (is_at (edge_cmp e) q) false (contains edge_cmp x.ends q))
      → Unlists (at_vertex v e) vs ws
  unlists_here e here = set_relists (λ u q b. not (at_vertex v e u q) && b) vs ws v x y is sets node
      (λ q. here q ∙ by (same_ends e q) (contains edge_cmp x.ends q)
      ∙ ap (λ (t : Bool). not (t && same_ends e q) && contains edge_cmp x.ends q) (sym (self_equal v)))
      (λ u q b f. ap (λ (t : Bool). not (t && same_ends e q) && b) f)
    where
      by : (s b : Bool) → cond s false b ≡ (not (true && s) && b)
      by true b = refl
      by false b = refl

  pub keeps_here : y.ends.keys ≡ x.ends.keys → KeepsListed vs ws
  keeps_here same = set_relists (λ u q b. b) vs ws v x y is sets node
      (λ q. ap (list_any (is_at (edge_cmp q))) same) (λ u q b f. refl)

-- ---- at both ends
module _ (e : Ends) (vs ws xs : List (ℕ × VertexNode)) where
  at_either : (v : ℕ) (q : Ends) → at_ends e v q ≡ (at_vertex e.0 e v q || at_vertex e.1 e v q)
  at_either v q = by (same_ends e q) refl
    where
      whole : (s t : Bool) → ((s || t) && true) ≡ ((s && true) || (t && true))
      whole true t = refl
      whole false t = refl

      nothing : (t : Bool) → (t && false) ≡ false
      nothing true = refl
      nothing false = refl

      by : (s : Bool) → same_ends e q ≡ s → (touches v q && s) ≡ (((e.0 == v) && s) || ((e.1 == v) && s))
      by true f = ap (λ (p : Ends). touches v p && true) (sym ((one_edge e q).0 f)) ∙ whole (e.0 == v) (e.1 == v)
      by false f = rw (nothing (touches v q), nothing (e.0 == v), nothing (e.1 == v)) refl

  pub lists_both : Lists (at_vertex e.0 e) vs ws → Lists (at_vertex e.1 e) ws xs → Lists (at_ends e) vs xs
  lists_both first then = relists_twice (λ v q b. at_vertex e.0 e v q || b) (λ v q b. at_vertex e.1 e v q || b)
      (λ v q b. at_ends e v q || b) vs ws xs first then
      (λ v q b h. by (at_vertex e.0 e v q) (at_vertex e.1 e v q) b ∙ ap (λ (t : Bool). t || b) (sym (at_either v q)))
    where
      by : (s t b : Bool) → (t || (s || b)) ≡ ((s || t) || b)
      by true true b = refl
      by true false b = refl
      by false true b = refl
      by false false b = refl

  pub unlists_both : Unlists (at_vertex e.0 e) vs ws → Unlists (at_vertex e.1 e) ws xs → Unlists (at_ends e) vs xs
  unlists_both first then = relists_twice (λ v q b. not (at_vertex e.0 e v q) && b) (λ v q b. not (at_vertex e.1 e v q) && b)
      (λ v q b. not (at_ends e v q) && b) vs ws xs first then
      (λ v q b h. by (at_vertex e.0 e v q) (at_vertex e.1 e v q) b ∙ ap (λ (t : Bool). not t && b) (sym (at_either v q)))
    where
      by : (s t b : Bool) → (not t && (not s && b)) ≡ (not (s || t) && b)
      by true true b = refl
      by true false b = refl
      by false true b = refl
      by false false b = refl

  -- what wasn't there is taken back
  taken_back : IsUnlisted vs e → (v : ℕ) (q : Ends) (b : Bool) → stands_behind vs v q ≡ Some b → (a : Bool)
      → (not (a && same_ends e q) && ((a && same_ends e q) || b)) ≡ b
  taken_back unlisted v q b h a = by a (same_ends e q) (λ s. unlisted v b (ap (stands_behind vs v) ((one_edge e q).0 s) ∙ h))
    where
      by : (a s : Bool) → (s ≡ true → b ≡ false) → (not (a && s) && ((a && s) || b)) ≡ b
      by true true f = sym (f refl)
      by true false f = refl
      by false s f = refl

  pub list_undone : IsUnlisted vs e → Lists (at_vertex e.0 e) vs ws → Unlists (at_vertex e.0 e) ws xs → KeepsListed vs xs
  list_undone unlisted first then = relists_twice (λ v q b. at_vertex e.0 e v q || b) (λ v q b. not (at_vertex e.0 e v q) && b)
      (λ v q b. b) vs ws xs first then (λ v q b h. taken_back unlisted v q b h (e.0 == v))

  pub both_undone : IsUnlisted vs e → Lists (at_ends e) vs ws → Unlists (at_ends e) ws xs → KeepsListed vs xs
  both_undone unlisted first then = relists_twice (λ v q b. at_ends e v q || b) (λ v q b. not (at_ends e v q) && b)
      (λ v q b. b) vs ws xs first then (λ v q b h. taken_back unlisted v q b h (touches v q))

-- a change, and then none
pub then_keeps : (f : ℕ → Ends → Bool → Bool) (vs ws xs : List (ℕ × VertexNode)) → Relists f vs ws → KeepsListed ws xs → Relists f vs xs
then_keeps f vs ws xs first then = relists_twice f (λ v q b. b) f vs ws xs first then (λ v q b h. refl)

-- ---- the index of vertices whose edges are listed anew
pub same_nodes : (f : ℕ → Ends → Bool → Bool) (vs ws : List (ℕ × VertexNode)) (es fs : List (Ends × Node)) → Relists f vs ws → fs ≡ es
    → nodes_in ws fs ≡ nodes_in vs es
same_nodes f vs ws es fs relists is = nodes_same (nodes_in ws fs) (nodes_in vs es) (vertices_kept vs ws es fs relists.nodes)
    (ap (λ (l : List (Ends × Node)). (nodes_in vs l).edges) is)

pub kept_index : (vs ws : List (ℕ × VertexNode)) (es fs : List (Ends × Node)) → KeepsListed vs ws → fs ≡ es
    → IsIndex (nodes_in vs es) (stands_behind vs) → IsIndex (nodes_in ws fs) (stands_behind ws)
kept_index vs ws es fs keeps is ix = subst (λ (m : Nodes). IsIndex m (stands_behind ws))
    (sym (same_nodes (λ v q b. b) vs ws es fs keeps is))
    (index_same (nodes_in vs es) (stands_behind vs) ix (stands_behind ws) keeps.behind)

-- what holds at all holds of a refusal
pub on_refusal : {T E P : Type 0} (r : Result T E) → P → OnErr r P
on_refusal (Ok x) p = tt
on_refusal (Err x) p = p
