-- Records by rising identity and version: the same records, each below all later ones.
use Rattle.std.proofs.Common.{◌≡◌, ◌⊎◌, T, List, [], ◌∷◌, length, map, sym, refl, ap, ◌∙◌, subst, inl, inr, ⊎_elim, arith}
use Rattle.std.specs.Prelude.{AllPairs}
use Rattle.std.specs.List.{Contains}
use Rattle.std.specs.Cmp.{ranked}
use Rattle.std.specs.Ordering.{nat_cmp, is_lt, ordering_then}
use Rattle.std.specs.declared.cmp.Ordering.{Ordering}
use Rattle.std.specs.declared.cmp.Ordering.TheVariants.{Less, Equal, Greater}
use Rattle.std.specs.FinMap as finite
use Rattle.std.specs.FinMap.Entries.{put, by_order, is_sorted, below_all}
use Rattle.std.proofs.lemmas.List.Elements.{All-contains}
use Rattle.std.proofs.lemmas.List.Kept.{AllPairs-cons}
use Rattle.mont_base.specs.declared.record.Held.{Held}
use Rattle.mont_base.specs.Image.{DiffersFrom}
use Rattle.mont_base.specs.State.{Ends, edge_cmp}
use Rattle.mont_laws.specs.Records.{AreSameRecords}
use Rattle.mont_laws.specs.Retiring.{IsBelow}
use Rattle.mont_laws.proofs.Keys.{edges_total, edges_exact}
use Rattle.mont_laws.proofs.Members.{no_element, first_element, later_element, element_cases, pairs_head, pairs_tail, all_elements}
use Rattle.mont_laws.proofs.Rows.{first, second}
use Rattle.core_steps.specs.Opened.{version_of, versions_in, by_version}

abbrev Row : Type 0
Row = Ends × Held

abbrev row : Held → Row
row r = (version_of r, r)

-- ---- a row in its place
module _ (k : Ends) (v : Held) where
  put_has : (es : List Row) → Contains (put edge_cmp k v es) (k, v)
  put_has [] = first_element (k, v) []
  put_has (e ∷ es) = by (edge_cmp k e.0) refl (put_has es)
    where
      by : (o : Ordering) → edge_cmp k e.0 ≡ o → Contains (put edge_cmp k v es) (k, v)
          → Contains (by_order o ((k, v) ∷ e ∷ es) ((e.0, v) ∷ es) (e ∷ put edge_cmp k v es)) (k, v)
      by Less is rest = first_element (k, v) (e ∷ es)
      by Equal is rest = subst (λ (j : Ends). Contains ((j, v) ∷ es) (k, v)) (edges_exact k e.0 is) (first_element (k, v) es)
      by Greater is rest = later_element e (put edge_cmp k v es) (k, v) rest

  put_keeps : (es : List Row) → ((e : Row) → Contains es e → edge_cmp k e.0 ≡ Equal → ⊥) → (x : Row) → Contains es x
      → Contains (put edge_cmp k v es) x
  put_keeps [] other x h = absurd (no_element x h)
  put_keeps (e ∷ es) other x h = by (edge_cmp k e.0) refl (put_keeps es (λ d g. other d (later_element e es d g)) x)
    where
      by : (o : Ordering) → edge_cmp k e.0 ≡ o → (Contains es x → Contains (put edge_cmp k v es) x)
          → Contains (by_order o ((k, v) ∷ e ∷ es) ((e.0, v) ∷ es) (e ∷ put edge_cmp k v es)) x
      by Less is rest = later_element (k, v) (e ∷ es) x h
      by Equal is rest = absurd (other e (first_element e es) is)
      by Greater is rest = ⊎_elim
          (λ (same : x ≡ e). subst (Contains (e ∷ put edge_cmp k v es)) (sym same) (first_element e (put edge_cmp k v es)))
          (λ (l : Contains es x). later_element e (put edge_cmp k v es) x (rest l))
          (element_cases e es x h)

  put_from : (es : List Row) (x : Row) → Contains (put edge_cmp k v es) x → (x ≡ (k, v)) ⊎ Contains es x
  put_from [] x h = element_cases (k, v) [] x h
  put_from (e ∷ es) x h = by (edge_cmp k e.0) refl (put_from es x) h
    where
      by : (o : Ordering) → edge_cmp k e.0 ≡ o → (Contains (put edge_cmp k v es) x → (x ≡ (k, v)) ⊎ Contains es x)
          → Contains (by_order o ((k, v) ∷ e ∷ es) ((e.0, v) ∷ es) (e ∷ put edge_cmp k v es)) x
          → (x ≡ (k, v)) ⊎ Contains (e ∷ es) x
      by Less is rest g = element_cases (k, v) (e ∷ es) x g
      by Equal is rest g = ⊎_elim
          (λ (same : x ≡ (e.0, v)). inl (same ∙ ap (λ (j : Ends). (j, v)) (sym (edges_exact k e.0 is))))
          (λ (l : Contains es x). inr (later_element e es x l))
          (element_cases (e.0, v) es x g)
      by Greater is rest g = ⊎_elim
          (λ (same : x ≡ e). inr (subst (Contains (e ∷ es)) (sym same) (first_element e es)))
          (λ (l : Contains (put edge_cmp k v es) x). ⊎_elim inl (λ (m : Contains es x). inr (later_element e es x m)) (rest l))
          (element_cases e (put edge_cmp k v es) x g)

-- ---- the rows of records
abbrev rows : List Held → List Row
rows rs = finite.entries (versions_in rs)

rows_put : (r : Held) (rs : List Held) → rows (r ∷ rs) ≡ put edge_cmp (version_of r) r (rows rs)
rows_put r rs = finite.entries-insert edges_total (versions_in rs) (version_of r) r

rows_none : (x : Row) → Contains (rows []) x → ⊥
rows_none x h =
    let many : length (rows []) ≡ 0 = sym (finite.len-entries finite.empty) ∙ finite.len-empty edge_cmp Held in
    let within = h.1 in
    absurd (omega (arith, many, within))

rows_from : (rs : List Held) (x : Row) → Contains (rows rs) x → (r : Held) × Contains rs r × (x ≡ row r)
rows_from [] x h = absurd (rows_none x h)
rows_from (r ∷ rs) x h = ⊎_elim
    (λ (same : x ≡ row r). (r, first_element r rs, same))
    (λ (l : Contains (rows rs) x). let f = rows_from rs x l in (f.0, later_element r rs f.0 f.1, f.2))
    (put_from (version_of r) r (rows rs) x (subst (λ (es : List Row). Contains es x) (rows_put r rs) h))

rows_to : (rs : List Held) → AllPairs DiffersFrom rs → (r : Held) → Contains rs r → Contains (rows rs) (row r)
rows_to [] apart r h = absurd (no_element r h)
rows_to (q ∷ rs) apart r h = subst (λ (es : List Row). Contains es (row r)) (sym (rows_put q rs)) (⊎_elim
    (λ (same : r ≡ q). subst (λ (p : Held). Contains (put edge_cmp (version_of q) q (rows rs)) (row p)) (sym same)
    (put_has (version_of q) q (rows rs)))
    (λ (l : Contains rs r). put_keeps (version_of q) q (rows rs) other (row r) (rows_to rs (pairs_tail DiffersFrom q rs apart) r l))
    (element_cases q rs r h))
  where
    other : (e : Row) → Contains (rows rs) e → edge_cmp (version_of q) e.0 ≡ Equal → ⊥
    other e g tie =
        let f = rows_from rs e g in
        let same : version_of q ≡ version_of f.0 = edges_exact (version_of q) e.0 tie ∙ ap (λ (d : Row). d.0) f.2 in
        All-contains (DiffersFrom q) rs f.0 (pairs_head DiffersFrom q rs apart) f.1
        (ap (λ (d : Ends). d.0) same, ap (λ (d : Ends). d.1) same)

-- ---- each below all later ones
less : (o : Ordering) → T (is_lt o) → o ≡ Less
less Less h = refl
less Equal h = absurd h
less Greater h = absurd h

below_of : (r q : Held) → T (is_lt (edge_cmp (version_of r) (version_of q))) → IsBelow r q
below_of r q h = by (nat_cmp r.label.identity q.label.identity) refl h
  where
    by : (o : Ordering) → nat_cmp r.label.identity q.label.identity ≡ o
        → T (is_lt (ordering_then o (nat_cmp r.label.version q.label.version))) → IsBelow r q
    by Less is g = inl (ranked r.label.identity q.label.identity Less (sym is))
    by Equal is g =
        inr (ranked r.label.identity q.label.identity Equal (sym is), ranked r.label.version q.label.version Less (sym (less _ g)))
    by Greater is g = absurd g

below_later : (k : Ends) (es : List Row) → T (below_all edge_cmp k es) → (e : Row) → Contains es e → T (is_lt (edge_cmp k e.0))
below_later k [] h e c = absurd (no_element e c)
below_later k (d ∷ es) h e c = ⊎_elim
    (λ (same : e ≡ d). subst (λ (x : Row). T (is_lt (edge_cmp k x.0))) (sym same)
    (first (is_lt (edge_cmp k d.0)) (below_all edge_cmp k es) h))
    (λ (l : Contains es e). below_later k es (second (is_lt (edge_cmp k d.0)) (below_all edge_cmp k es) h) e l)
    (element_cases d es e c)

abbrev values : List Row → List Held
values es = map (λ (e : Row). e.1) es

value_from : (es : List Row) (q : Held) → Contains (values es) q → (e : Row) × Contains es e × (e.1 ≡ q)
value_from [] q h = absurd (no_element q h)
value_from (e ∷ es) q h = ⊎_elim
    (λ (same : q ≡ e.1). (e, first_element e es, sym same))
    (λ (l : Contains (values es) q). let f = value_from es q l in (f.0, later_element e es f.0 f.1, f.2))
    (element_cases e.1 (values es) q h)

value_to : (es : List Row) (e : Row) → Contains es e → Contains (values es) e.1
value_to [] e h = absurd (no_element e h)
value_to (d ∷ es) e h = ⊎_elim
    (λ (same : e ≡ d). subst (λ (x : Row). Contains (values (d ∷ es)) x.1) (sym same) (first_element d.1 (values es)))
    (λ (l : Contains es e). later_element d.1 (values es) e.1 (value_to es e l))
    (element_cases d es e h)

values_rise : (es : List Row) → T (is_sorted edge_cmp es) → ((e : Row) → Contains es e → e.0 ≡ version_of e.1)
    → AllPairs IsBelow (values es)
values_rise [] sorted named = λ i j d low high. absurd (no_element d (0, omega arith, refl))
values_rise (e ∷ es) sorted named = AllPairs-cons IsBelow e.1 (values es)
    (all_elements (IsBelow e.1) (values es) (λ q c. let f = value_from es q c in
    subst (IsBelow e.1) f.2 (below_of e.1 f.0.1
    (subst (λ (k : Ends). T (is_lt (edge_cmp k (version_of f.0.1)))) (named e (first_element e es))
    (subst (λ (k : Ends). T (is_lt (edge_cmp e.0 k))) (named f.0 (later_element e es f.0 f.1))
    (below_later e.0 es (first (below_all edge_cmp e.0 es) (is_sorted edge_cmp es) sorted) f.0 f.1))))))
    (values_rise es (second (below_all edge_cmp e.0 es) (is_sorted edge_cmp es) sorted) (λ d g. named d (later_element e es d g)))

pub versions_rise : (rs : List Held) → AllPairs IsBelow (by_version rs)
versions_rise rs = values_rise (rows rs)
    (finite.entries_sorted (versions_in rs))
    (λ e c. let f = rows_from rs e c in ap (λ (x : Row). x.0) f.2 ∙ ap (λ (x : Row). version_of x.1) (sym f.2))

pub versions_same : (rs : List Held) → AllPairs DiffersFrom rs → AreSameRecords rs (by_version rs)
versions_same rs apart r = (
  (λ h. value_to (rows rs) (row r) (rows_to rs apart r h)),
  (λ h. let f = value_from (rows rs) r h in
      let g = rows_from rs f.0 f.1 in
      subst (Contains rs) (sym (ap (λ (x : Row). x.1) g.2) ∙ f.2) g.1),
)
