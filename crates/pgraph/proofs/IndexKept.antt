-- An index stays one as vertices and edges come and go.
use Rattle.std.proofs.Common.{◌≡◌, ℕ, ◌≤◌, ◌==◌, Bool, true, false, cond, List, [], ◌∷◌, length, refl, sym, ap, subst, ◌∙◌, arith, inl, inr, ◌⊎◌}
use Rattle.std.specs.Prelude.{Option, Some, None, is_some, option_map, slice_get, ◌&&◌, ◌||◌, not}
use Rattle.std.specs.declared.cmp.Ordering.{Ordering}
use Rattle.std.specs.Cmp.{IsTotalOrder, eq_by_cmp_equiv, nat_cmp_total}
use Rattle.std.specs.Ordering.{nat_cmp, eq_by_cmp}
use Rattle.std.specs.List.{Contains}
use Rattle.std.specs.FinMap as finite
use Rattle.std.proofs.lemmas.Bool.Decides.{nat_tests}
use Rattle.std.proofs.lemmas.Option.{same_Some}
use Rattle.mont_base.specs.State.{Ends, edge_cmp, touches}
use Rattle.mont_laws.proofs.Keys.{both_true, one_number, one_edge, edges_total, edges_exact}
use Rattle.pgraph.specs.declared.node.Node.{Node}
use Rattle.pgraph.specs.GraphIndex.{Nodes, IsIndex, joins, nodes_at, with_vertex, with_edge, without_edge, no_nodes, same_ends, at_ends, KeepsOthers, edge_name}
use Rattle.mont_laws.proofs.Members.{first_element, kept_element}
use Rattle.pgraph.proofs.Passing.{entry_there, passing_none, passing_some}

-- ---- what is there
abbrev pub has_vertex : Nodes → ℕ → Bool
has_vertex n v = finite.contains_key n.vertices v

abbrev pub has_edge : Nodes → Ends → Bool
has_edge n e = finite.contains_key n.edges e

module _ {K V : Type 0} {R : K → K → Ordering} (order : IsTotalOrder R) (m : finite.FinMap R V) (k q : K) where
  pub has_inserted : (v : V) → finite.contains_key (finite.insert m k v) q ≡ (eq_by_cmp R q k || finite.contains_key m q)
  has_inserted v = ap is_some (finite.get-insert order m k v q) ∙ by (eq_by_cmp R q k) (finite.get m q)
    where
      by : (t : Bool) (o : Option V) → is_some (cond t (Some v) o) ≡ (t || is_some o)
      by true o = refl
      by false o = refl

  pub has_removed : finite.contains_key (finite.remove m k) q ≡ (not (eq_by_cmp R q k) && finite.contains_key m q)
  has_removed = ap is_some (finite.get-remove order m k q) ∙ by (eq_by_cmp R q k) (finite.get m q)
    where
      by : (t : Bool) (o : Option V) → is_some (cond t None o) ≡ (not t && is_some o)
      by true o = refl
      by false o = refl

pub touched : (v : ℕ) (e : Ends) → touches v e ≡ true → (e.0 ≡ v) ⊎ (e.1 ≡ v)
touched v e h = by (e.0 == v) refl (e.1 == v) refl h
  where
    by : (t : Bool) → (e.0 == v) ≡ t → (u : Bool) → (e.1 == v) ≡ u → (t || u) ≡ true → (e.0 ≡ v) ⊎ (e.1 ≡ v)
    by true f u g h = inl (grind (arith, nat_tests))
    by false f true g h = inr (grind (arith, nat_tests))
    by false f false g h = absurd (cc)

both_ends : (n : Nodes) (e : Ends) → joins n e ≡ true → (has_vertex n e.0 ≡ true) × (has_vertex n e.1 ≡ true)
both_ends n e h =
    both_true (has_vertex n e.0) (has_vertex n e.1) (both_true (not (e.0 == e.1)) (has_vertex n e.0 && has_vertex n e.1) h).1

pub end_there : (n : Nodes) (e : Ends) (v : ℕ) → joins n e ≡ true → touches v e ≡ true → has_vertex n v ≡ true
end_there n e v h t = elim (touched v e t) [
  | inl is ↦ subst (λ (w : ℕ). has_vertex n w ≡ true) is (both_ends n e h).0
  | inr is ↦ subst (λ (w : ℕ). has_vertex n w ≡ true) is (both_ends n e h).1
]

kept_joined : (n m : Nodes) (e : Ends) → (has_vertex n e.0 ≡ true → has_vertex m e.0 ≡ true)
    → (has_vertex n e.1 ≡ true → has_vertex m e.1 ≡ true) → joins n e ≡ true → joins m e ≡ true
kept_joined n m e f g h =
    let p = both_true (not (e.0 == e.1)) (has_vertex n e.0 && has_vertex n e.1) h in
    let q = both_true (has_vertex n e.0) (has_vertex n e.1) p.1 in
    rw (p.0, f q.0, g q.1) refl

pub no_index : (d : ℕ → Ends → Option Bool) → ((v : ℕ) (e : Ends) → d v e ≡ None) → IsIndex no_nodes d
no_index d none = record {
  joined = λ e h. absurd (absent e h);
  listed = λ v e b h. let n = none v e in absurd (cc);
}
  where
    absent : (e : Ends) → has_edge no_nodes e ≡ true → ⊥
    absent e h = let f : is_some (finite.get no_nodes.edges e) ≡ false = ap is_some (finite.get-empty edge_cmp e) in cc

module _ (n : Nodes) (d : ℕ → Ends → Option Bool) (ix : IsIndex n d) where
  -- no edge goes from or to what is no vertex
  pub none_at : (v : ℕ) → has_vertex n v ≡ false → length (nodes_at n v) ≡ 0
  none_at v none = passing_none edges_total edges_exact (touches v) n.edges (λ e there. by e there (touches v e) refl)
    where
      by : (e : Ends) → has_edge n e ≡ true → (t : Bool) → touches v e ≡ t → t ≡ false
      by e there true t = let h = end_there n e v (ix.joined e there) t in absurd (cc)
      by e there false t = refl

  pub no_edge_at : (v : ℕ) → has_vertex n v ≡ false → (e : Ends) → false ≡ (has_edge n e && touches v e)
  no_edge_at v none e = by (has_edge n e) refl (touches v e) refl
    where
      by : (s : Bool) → has_edge n e ≡ s → (t : Bool) → touches v e ≡ t → false ≡ (s && t)
      by true there true t = let h = end_there n e v (ix.joined e there) t in absurd (cc)
      by true there false t = refl
      by false there t f = refl

  -- an edge that isn't there is after no vertex
  pub none_listed : (e : Ends) → finite.get n.edges e ≡ None → (v : ℕ) (b : Bool) → d v e ≡ Some b → b ≡ false
  none_listed e none v b h = ix.listed v e b h ∙ ap (λ (o : Option Node). is_some o && touches v e) none

  -- nothing is after another vertex than before
  pub index_same : (c : ℕ → Ends → Option Bool) → ((v : ℕ) (e : Ends) → c v e ≡ option_map (λ b. b) (d v e)) → IsIndex n c
  index_same c same = record { joined = ix.joined; listed = λ v e b h. by v e b (d v e) refl (sym (same v e) ∙ h) }
    where
      by : (v : ℕ) (e : Ends) (b : Bool) (o : Option Bool) → d v e ≡ o → option_map (λ b. b) o ≡ Some b
          → b ≡ (has_edge n e && touches v e)
      by v e b None f h = absurd (cc)
      by v e b (Some a) f h = ix.listed v e b (f ∙ h)

  -- a vertex has a node, and after it stand the edges at it
  pub vertex_put : (v : ℕ) (x : Node) (held : Ends → Bool) (c : ℕ → Ends → Option Bool)
      → ((e : Ends) → held e ≡ (has_edge n e && touches v e))
      → ((q : ℕ) (e : Ends) → c q e ≡ cond (eq_by_cmp nat_cmp v q) (Some (held e)) (d q e)) → IsIndex (with_vertex n v x) c
  vertex_put v x held c holds sets = record {
    joined = λ e there. kept_joined n (with_vertex n v x) e (more e.0) (more e.1) (ix.joined e there);
    listed = λ w e b h. by w e b (eq_by_cmp nat_cmp v w) refl (sym (sets w e) ∙ h);
  }
    where
      more : (w : ℕ) → has_vertex n w ≡ true → has_vertex (with_vertex n v x) w ≡ true
      more w h = has_inserted nat_cmp_total n.vertices v w x ∙ rw h (or_true (eq_by_cmp nat_cmp w v))
        where
          or_true : (t : Bool) → (t || true) ≡ true
          or_true true = refl
          or_true false = refl

      by : (w : ℕ) (e : Ends) (b t : Bool) → eq_by_cmp nat_cmp v w ≡ t → cond t (Some (held e)) (d w e) ≡ Some b
          → b ≡ (has_edge n e && touches w e)
      by w e b true f h = sym (same_Some (held e) b h) ∙ holds e
          ∙ ap (λ (u : ℕ). has_edge n e && touches u e) ((one_number v w).0 f)
      by w e b false f h = ix.listed w e b h

  -- a vertex without edges goes
  pub vertex_gone : (v : ℕ) (c : ℕ → Ends → Option Bool) → length (nodes_at n v) ≡ 0
      → ((q : ℕ) (e : Ends) → c q e ≡ cond (eq_by_cmp nat_cmp v q) None (d q e))
      → IsIndex (record { vertices = finite.remove n.vertices v; edges = n.edges }) c
  vertex_gone v c none sets = record {
    joined = λ e there. kept_joined n (record { vertices = finite.remove n.vertices v; edges = n.edges }) e
        (left e there e.0 (λ t. inl t)) (left e there e.1 (λ t. inr t)) (ix.joined e there);
    listed = λ w e b h. by w e b (eq_by_cmp nat_cmp v w) (sym (sets w e) ∙ h);
  }
    where
      touching : (e : Ends) → (e.0 ≡ v) ⊎ (e.1 ≡ v) → touches v e ≡ true
      touching e (inl f) = rw (first e f) refl
        where
          first : (e : Ends) → e.0 ≡ v → (e.0 == v) ≡ true
          first e f = grind (arith, nat_tests)
      touching e (inr f) = rw (second e f) (or_true (e.0 == v))
        where
          second : (e : Ends) → e.1 ≡ v → (e.1 == v) ≡ true
          second e f = grind (arith, nat_tests)

          or_true : (t : Bool) → (t || true) ≡ true
          or_true true = refl
          or_true false = refl

      left : (e : Ends) → has_edge n e ≡ true → (w : ℕ) → (w ≡ v → (e.0 ≡ v) ⊎ (e.1 ≡ v)) → has_vertex n w ≡ true
          → has_vertex (record { vertices = finite.remove n.vertices v; edges = n.edges }) w ≡ true
      left e there w at h = has_removed nat_cmp_total n.vertices v w ∙ by (eq_by_cmp nat_cmp w v) refl
        where
          by : (t : Bool) → eq_by_cmp nat_cmp w v ≡ t → (not t && has_vertex n w) ≡ true
          by true f = let some : 1 ≤ length (nodes_at n v) = passing_some edges_total edges_exact (touches v) n.edges e there
              (touching e (at ((one_number w v).0 f))) in absurd (omega arith)
          by false f = h

      by : (w : ℕ) (e : Ends) (b t : Bool) → cond t None (d w e) ≡ Some b → b ≡ (has_edge n e && touches w e)
      by w e b true h = absurd (cc)
      by w e b false h = ix.listed w e b h

  -- an edge that is there has another node
  pub edge_put : (e : Ends) (x : Node) → has_edge n e ≡ true → IsIndex (with_edge n e x) d
  edge_put e x there = record {
    joined = λ q h. ix.joined q (sym (same q) ∙ h);
    listed = λ v q b h. ix.listed v q b h ∙ ap (λ (t : Bool). t && touches v q) (sym (same q));
  }
    where
      same : (q : Ends) → has_edge (with_edge n e x) q ≡ has_edge n q
      same q = has_inserted edges_total n.edges e q x ∙ by (eq_by_cmp edge_cmp q e) refl
        where
          by : (t : Bool) → eq_by_cmp edge_cmp q e ≡ t → (t || has_edge n q) ≡ has_edge n q
          by true f = sym (subst (λ (p : Ends). has_edge n p ≡ true) (sym ((one_edge q e).0 f)) there)
          by false f = refl

  turned : (e q : Ends) → same_ends e q ≡ eq_by_cmp edge_cmp q e
  turned e q = (eq_by_cmp_equiv edges_total).symm e q

  -- an edge comes
  pub edge_added : (e : Ends) (x : Node) (c : ℕ → Ends → Option Bool) → joins n e ≡ true
      → ((v : ℕ) (q : Ends) → c v q ≡ option_map (λ b. at_ends e v q || b) (d v q)) → IsIndex (with_edge n e x) c
  edge_added e x c joins-e sets = record {
    joined = λ q h. by q (eq_by_cmp edge_cmp q e) refl (sym (has q) ∙ h);
    listed = λ v q b h. listed v q b (d v q) refl (sym (sets v q) ∙ h);
  }
    where
      has : (q : Ends) → has_edge (with_edge n e x) q ≡ (eq_by_cmp edge_cmp q e || has_edge n q)
      has q = has_inserted edges_total n.edges e q x

      by : (q : Ends) (t : Bool) → eq_by_cmp edge_cmp q e ≡ t → (t || has_edge n q) ≡ true → joins n q ≡ true
      by q true f h = subst (λ (p : Ends). joins n p ≡ true) (sym ((one_edge q e).0 f)) joins-e
      by q false f h = ix.joined q h

      tests : (a s t : Bool) → ((t && s) || (a && t)) ≡ ((s || a) && t)
      tests true true true = refl
      tests true true false = refl
      tests true false true = refl
      tests true false false = refl
      tests false true true = refl
      tests false true false = refl
      tests false false true = refl
      tests false false false = refl

      listed : (v : ℕ) (q : Ends) (b : Bool) (o : Option Bool) → d v q ≡ o → option_map (λ b. at_ends e v q || b) o ≡ Some b
          → b ≡ (has_edge (with_edge n e x) q && touches v q)
      listed v q b None f h = absurd (cc)
      listed v q b (Some a) f h = sym (same_Some (at_ends e v q || a) b h)
          ∙ ap (λ (t : Bool). at_ends e v q || t) (ix.listed v q a f)
          ∙ tests (has_edge n q) (same_ends e q) (touches v q)
          ∙ ap (λ (t : Bool). (t || has_edge n q) && touches v q) (turned e q)
          ∙ ap (λ (t : Bool). t && touches v q) (sym (has q))

  -- an edge goes
  pub edge_gone : (e : Ends) (c : ℕ → Ends → Option Bool)
      → ((v : ℕ) (q : Ends) → c v q ≡ option_map (λ b. not (at_ends e v q) && b) (d v q)) → IsIndex (without_edge n e) c
  edge_gone e c sets = record {
    joined = λ q h. ix.joined q (both_true (not (eq_by_cmp edge_cmp q e)) (has_edge n q) (sym (has q) ∙ h)).1;
    listed = λ v q b h. listed v q b (d v q) refl (sym (sets v q) ∙ h);
  }
    where
      has : (q : Ends) → has_edge (without_edge n e) q ≡ (not (eq_by_cmp edge_cmp q e) && has_edge n q)
      has q = has_removed edges_total n.edges e q

      tests : (a s t : Bool) → (not (t && s) && (a && t)) ≡ ((not s && a) && t)
      tests true true true = refl
      tests true true false = refl
      tests true false true = refl
      tests true false false = refl
      tests false true true = refl
      tests false true false = refl
      tests false false true = refl
      tests false false false = refl

      listed : (v : ℕ) (q : Ends) (b : Bool) (o : Option Bool) → d v q ≡ o → option_map (λ b. not (at_ends e v q) && b) o ≡ Some b
          → b ≡ (has_edge (without_edge n e) q && touches v q)
      listed v q b None f h = absurd (cc)
      listed v q b (Some a) f h = sym (same_Some (not (at_ends e v q) && a) b h)
          ∙ ap (λ (t : Bool). not (at_ends e v q) && t) (ix.listed v q a f)
          ∙ tests (has_edge n q) (same_ends e q) (touches v q)
          ∙ ap (λ (t : Bool). (not t && has_edge n q) && touches v q) (turned e q)
          ∙ ap (λ (t : Bool). t && touches v q) (sym (has q))

-- ---- a vertex goes with its edges
abbrev pub first_at : Nodes → ℕ → Option (Ends × Node)
first_at n v = slice_get (nodes_at n v) 0

-- the first edge at a vertex is one
pub first_there : (n : Nodes) (v : ℕ) (x : Ends × Node) → first_at n v ≡ Some x → (has_edge n x.0 ≡ true) × (touches v x.0 ≡ true)
first_there n v x h =
    let b = kept_element (λ (e : Ends × Node). touches v e.0) x (finite.entries n.edges) (by (nodes_at n v) h) in
    (entry_there edges_total edges_exact n.edges x b.0, b.1)
  where
    by : (es : List (Ends × Node)) → slice_get es 0 ≡ Some x → Contains es x
    by [] h = absurd (cc)
    by (e ∷ es) h = subst (λ (y : Ends × Node). Contains (e ∷ es) y) (same_Some e x h) (first_element e es)

-- there is none
pub none_first : (n : Nodes) (v : ℕ) → first_at n v ≡ None → length (nodes_at n v) ≡ 0
none_first n v h = by (nodes_at n v) h
  where
    by : (es : List (Ends × Node)) → slice_get es 0 ≡ None → length es ≡ 0
    by [] h = refl
    by (e ∷ es) h = let f : ◌≡◌ {A = Option (Ends × Node)} (Some e) None = h in absurd (cc)

-- the same by the name of the first
pub named_there : (n : Nodes) (v : ℕ) (e : Ends) → option_map edge_name (first_at n v) ≡ Some e → (has_edge n e ≡ true)
    × (touches v e ≡ true)
named_there n v e h = by (first_at n v) refl h
  where
    by : (o : Option (Ends × Node)) → first_at n v ≡ o → option_map edge_name o ≡ Some e → (has_edge n e ≡ true) × (touches v e ≡ true)
    by None f g = absurd (cc)
    by (Some x) f g = subst (λ (q : Ends). (has_edge n q ≡ true) × (touches v q ≡ true)) (same_Some x.0 e g) (first_there n v x f)

pub none_named : (n : Nodes) (v : ℕ) → option_map edge_name (first_at n v) ≡ None → length (nodes_at n v) ≡ 0
none_named n v h = by (first_at n v) refl h
  where
    by : (o : Option (Ends × Node)) → first_at n v ≡ o → option_map edge_name o ≡ None → length (nodes_at n v) ≡ 0
    by None f g = none_first n v f
    by (Some x) f g = absurd (cc)

-- one more edge at the vertex is gone
pub others_kept : (v : ℕ) (old n : Nodes) (e : Ends) → touches v e ≡ true → KeepsOthers v old n → KeepsOthers v old (without_edge n e)
others_kept v old n e t kept = record { vertices = kept.vertices; edges = at }
  where
    at : (q : Ends) → touches v q ≡ false → finite.get (without_edge n e).edges q ≡ finite.get old.edges q
    at q f = finite.get-remove edges_total n.edges e q ∙ by (eq_by_cmp edge_cmp q e) refl
      where
        by : (s : Bool) → eq_by_cmp edge_cmp q e ≡ s → cond s None (finite.get n.edges q) ≡ finite.get old.edges q
        by true g = let is : touches v q ≡ touches v e = ap (touches v) ((one_edge q e).0 g) in absurd (cc)
        by false g = kept.edges q f

-- where none is left, the edges are those elsewhere
pub edges_elsewhere : (v : ℕ) (old n : Nodes) → KeepsOthers v old n → length (nodes_at n v) ≡ 0
    → n.edges ≡ finite.retain_keys old.edges (λ e. not (touches v e))
edges_elsewhere v old n kept none = finite.same_map edges_total edges_exact n.edges _
    (λ q. at q (touches v q) refl ∙ sym (finite.get-retain_keys old.edges (λ e. not (touches v e)) q
    (λ x is. ap (λ (e : Ends). not (touches v e)) (sym (edges_exact q x is)))))
  where
    at : (q : Ends) (t : Bool) → touches v q ≡ t → finite.get n.edges q ≡ cond (not (touches v q)) (finite.get old.edges q) None
    at q true f = gone (finite.get n.edges q) refl ∙ sym (ap (λ (b : Bool). cond (not b) (finite.get old.edges q) None) f)
      where
        gone : (o : Option Node) → finite.get n.edges q ≡ o → o ≡ None
        gone None h = refl
        gone (Some x) h = let some : 1 ≤ length (nodes_at n v) = passing_some edges_total edges_exact (touches v) n.edges q
            (ap is_some h) f in
            absurd (omega arith)
    at q false f = kept.edges q f ∙ sym (ap (λ (b : Bool). cond (not b) (finite.get old.edges q) None) f)
