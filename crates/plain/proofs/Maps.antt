-- The finite map of a sorted map's entries.
use Rattle.std.proofs.Common.{◌≡◌, ℕ, Bool, true, List, [], ◌∷◌, Option, Some, None, ◌==◌, ◌&&◌, cond, eq-eqb, length, refl, sym, ap, ◌∙◌}
use Rattle.std.specs.Prelude.{◌↔◌, IsTrue, is_some}
use Rattle.std.specs.declared.cmp.Ordering.{Ordering}
use Rattle.std.specs.declared.cmp.Ordering.TheVariants.{Less, Equal, Greater}
use Rattle.std.specs.Bool.{Decides}
use Rattle.std.specs.Cmp.{IsTotalOrder, nat_cmp_total, eq_by_cmp_equiv}
use Rattle.std.specs.Cmp.Lexicographic.{nat_list_cmp_total}
use Rattle.std.specs.Ordering.{eq_by_cmp, is_eq}
use Rattle.std.specs.List.{AllByRecursion, filter}
use Rattle.std.specs.List.Sorted.{IsStrictlySortedBy}
use Rattle.std.specs.Map.{lookup, keys_of}
use Rattle.std.specs.BTreeMap.{is_at}
use Rattle.std.specs.FinMap as map
use Rattle.std.specs.FinMap.{find, put}
use Rattle.std.proofs.lemmas.Bool.Decides.{Decides-eqb, Decides-and}
use Rattle.std.proofs.lemmas.Cmp.{on_total, then_total}
use Rattle.std.proofs.lemmas.Map.Entries.{lookup-filter-keys}
use Rattle.std.proofs.lemmas.Map.Keys.{sorted_head, sorted_tail}
use Rattle.std.proofs.lemmas.Map.Lookups.{exact_pairs, exact_unsigned}
use Rattle.mont_base.specs.State.{key_cmp, edge_cmp, Ends}
use Rattle.plain.proofs.Lists.{empty_of_length}

module _ {K X : Type 0} (R : K → K → Ordering) where
  pub find-lookup : (es : List (K × X)) (q : K) → find R q es ≡ lookup (is_at (R q)) es
  find-lookup [] q = refl
  find-lookup (e ∷ es) q = ap (cond (is_at (R q) e.0) (Some e.1)) (find-lookup es q)

  -- a key below all comes first
  put-below : (k : K) (v : X) (es : List (K × X)) → AllByRecursion (λ y. R k y ≡ Less) (keys_of es) → put R k v es ≡ (k, v) ∷ es
  put-below k v [] h = refl
  put-below k v (e ∷ es) h = rw h.0 refl

  pub entries-empty : map.entries (map.empty {X = X} {R = R}) ≡ []
  entries-empty = empty_of_length _ (sym (map.len-entries (map.empty {X = X} {R = R})) ∙ map.len-empty R X)

module _ {K X : Type 0} {R : K → K → Ordering} (o : IsTotalOrder R) where
  -- the map of sorted entries has these entries
  pub entries-sorted : (es : List (K × X)) → IsStrictlySortedBy R (keys_of es) → map.entries (map.from_entries {R = R} es) ≡ es
  entries-sorted [] h = entries-empty R
  entries-sorted (e ∷ es) h =
      map.entries-insert o (map.from_entries es) e.0 e.1
      ∙ ap (put R e.0 e.1) (entries-sorted es (sorted_tail R e.0 (keys_of es) h))
      ∙ put-below R e.0 e.1 es (sorted_head R e.0 (keys_of es) h)

  -- what the map of the entries has at a key
  pub get-lookup : (es : List (K × X)) (q : K) → map.get (map.from_entries {R = R} es) q ≡ lookup (is_at (R q)) es
  get-lookup es q = map.get-from_entries o es q ∙ find-lookup R es q

  -- entries that differ at one key make maps that differ there
  pub one_given :
      map.IsAntisymmetric R → (es fs : List (K × X)) (k : K) (v : X)
      → ((q : K) → lookup (is_at (R q)) fs ≡ cond (is_at (R k) q) (Some v) (lookup (is_at (R q)) es))
      → map.from_entries {R = R} fs ≡ map.insert (map.from_entries es) k v
  one_given same es fs k v h = map.same_map o same _ _ (λ q.
      get-lookup fs q ∙ h q ∙ ap (λ b. cond b (Some v) (lookup (is_at (R q)) es)) ((eq_by_cmp_equiv o).symm k q)
      ∙ sym (map.get-insert o (map.from_entries es) k v q ∙ ap (cond (eq_by_cmp R q k) (Some v)) (get-lookup es q)))

  -- to take out what isn't there changes nothing
  pub remove-absent : map.IsAntisymmetric R → (m : map.FinMap R X) (k : K) → map.get m k ≡ None → map.remove m k ≡ m
  remove-absent same m k none = map.same_map o same _ _ (λ q. map.get-remove o m k q ∙ at q (R q k) refl)
    where
      at : (q : K) (r : Ordering) → R q k ≡ r → cond (is_eq r) None (map.get m q) ≡ map.get m q
      at q Less e = refl
      at q Equal e = sym none ∙ map.get_tied o m q k e
      at q Greater e = refl

-- a map that is kept as sorted entries
module _ {K X : Type 0} {R : K → K → Ordering} (o : IsTotalOrder R) (es : List (K × X)) (m : map.FinMap R X)
    (is : map.from_entries {R = R} es ≡ m) where
  pub kept_get : (q : K) (r : Option X) → r ≡ lookup (is_at (R q)) es → r ≡ map.get m q
  kept_get q r e = e ∙ sym (get-lookup o es q) ∙ ap (λ n. map.get n q) is

  pub kept_contains : (q : K) (b : Bool) → b ≡ is_some (lookup (is_at (R q)) es) → b ≡ map.contains_key m q
  kept_contains q b e = e ∙ ap is_some (kept_get q (lookup (is_at (R q)) es) refl)

  pub kept_entries : (xs : List (K × X)) → IsStrictlySortedBy R (keys_of es) → xs ≡ es → xs ≡ map.entries m
  kept_entries xs sorted e = e ∙ sym (entries-sorted o es sorted) ∙ ap map.entries is

  pub kept_len : (n : ℕ) → IsStrictlySortedBy R (keys_of es) → n ≡ length es → n ≡ map.len m
  kept_len n sorted e = e ∙ ap length (kept_entries es sorted refl) ∙ sym (map.len-entries m)

  module _ (same : map.IsAntisymmetric R) (fs : List (K × X)) where
    abbrev Sets : K → Option X → Type 0
    Sets k w = (q : K) → lookup (is_at (R q)) fs ≡ cond (is_at (R k) q) w (lookup (is_at (R q)) es)

    set_at : (k : K) (w : Option X) → Sets k w → (q : K) → map.get (map.from_entries {R = R} fs) q ≡ cond (eq_by_cmp R q k) w (map.get m q)
    set_at k w h q =
        get-lookup o fs q ∙ h q
        ∙ ap (λ b. cond b w (lookup (is_at (R q)) es)) ((eq_by_cmp_equiv o).symm k q)
        ∙ ap (cond (eq_by_cmp R q k) w) (kept_get q (lookup (is_at (R q)) es) refl)

    pub kept_insert : (k : K) (v : X) → Sets k (Some v) → map.from_entries {R = R} fs ≡ map.insert m k v
    kept_insert k v h = map.same_map o same _ _ (λ q. set_at k (Some v) h q ∙ sym (map.get-insert o m k v q))

    pub kept_remove : (k : K) → Sets k None → map.from_entries {R = R} fs ≡ map.remove m k
    kept_remove k h = map.same_map o same _ _ (λ q. set_at k None h q ∙ sym (map.get-remove o m k q))

    pub kept_retain : (p : K → Bool) → fs ≡ filter (λ e. p e.0) es → map.from_entries {R = R} fs ≡ map.retain_keys m p
    kept_retain p e =
        let alike : (q x : K) → is_at (R q) x ≡ true → p x ≡ p q = λ q x t. ap p (sym (same q x (tied (R q x) t))) in
        map.same_map o same _ _ (λ q.
        get-lookup o fs q ∙ ap (lookup (is_at (R q))) e
        ∙ lookup-filter-keys (is_at (R q)) p (p q) (λ x t. alike q x t) es
        ∙ ap (λ w. cond (p q) w None) (kept_get q (lookup (is_at (R q)) es) refl)
        ∙ sym (map.get-retain_keys m p q (λ x t. ap p (sym (same q x t)))))
      where
        tied : (r : Ordering) → is_eq r ≡ true → r ≡ Equal
        tied Less t = cc
        tied Equal t = refl
        tied Greater t = cc

  -- maps are the same where their entries are
  pub kept_same : (fs : List (K × X)) (n : map.FinMap R X) → map.from_entries {R = R} fs ≡ n → IsStrictlySortedBy R (keys_of es)
      → IsStrictlySortedBy R (keys_of fs) → (r : Bool) → Decides r (es ≡ fs) → IsTrue r ↔ (m ≡ n)
  kept_same fs n it sorted others r decided = (
    λ t. sym is ∙ ap map.from_entries (decided.0 t) ∙ it,
    λ e. decided.1 (sym (entries-sorted o es sorted) ∙ ap map.entries (is ∙ e ∙ sym it) ∙ entries-sorted o fs others),
  )

  -- and they aren't where these are more or fewer
  pub kept_apart : (fs : List (K × X)) (n : map.FinMap R X) → map.from_entries {R = R} fs ≡ n → IsStrictlySortedBy R (keys_of es)
      → IsStrictlySortedBy R (keys_of fs) → (a b : ℕ) → a ≡ length es → b ≡ length fs → (a ≡ b → ⊥) → IsTrue (a == b) ↔ (m ≡ n)
  kept_apart fs n it sorted others a b long short apart = (
    λ t. absurd (apart ((Decides-eqb a b).0 t)),
    λ e. eq-eqb a b
        (long ∙ ap length (sym (entries-sorted o es sorted) ∙ ap map.entries (is ∙ e ∙ sym it) ∙ entries-sorted o fs others) ∙ sym short),
  )

pub keys_total : IsTotalOrder key_cmp
keys_total = nat_list_cmp_total

pub keys_differ : map.IsAntisymmetric key_cmp
keys_differ = map.slice_cmp-IsAntisymmetric map.nat_cmp-IsAntisymmetric

pub edges_total : IsTotalOrder edge_cmp
edges_total = then_total (on_total (λ (e : Ends). e.0) nat_cmp_total) (on_total (λ (e : Ends). e.1) nat_cmp_total)

pub edges_differ : map.IsAntisymmetric edge_cmp
edges_differ = exact_pairs _ _ exact_unsigned exact_unsigned

-- what `==` of pairs of numbers decides
pub same_ends : (d e : Ends) → Decides ((d.0 == e.0) && (d.1 == e.1)) (d ≡ e)
same_ends d e =
    let both = Decides-and (d.0 == e.0) (d.1 == e.1) (Decides-eqb d.0 e.0) (Decides-eqb d.1 e.1) in
    (λ t i. ((both.0 t).0 i, (both.0 t).1 i), λ h. both.1 (ap (λ (c : Ends). c.0) h, ap (λ (c : Ends). c.1) h))
