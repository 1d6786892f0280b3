-- How many keys of a finite map pass a test, as keys come and go.
use Rattle.std.proofs.Common.{◌≡◌, ◌+◌, ◌≤◌, Bool, true, false, cond, List, [], ◌∷◌, length, refl, sym, ap, ◌∙◌, arith, inl, inr, ◌⊎◌}
use Rattle.std.specs.Prelude.{Option, Some, None, is_some}
use Rattle.std.specs.declared.cmp.Ordering.{Ordering}
use Rattle.std.specs.declared.cmp.Ordering.TheVariants.{Equal}
use Rattle.std.specs.Cmp.{IsTotalOrder}
use Rattle.std.specs.Ordering.{eq_by_cmp}
use Rattle.std.specs.List.{filter, Contains}
use Rattle.std.specs.FinMap as finite
use Rattle.std.specs.FinMap.Entries.{find-where_key, is_sorted-where_key, same_entries}
use Rattle.mont_laws.proofs.Keys.{one_key, some_there}
use Rattle.mont_laws.proofs.Members.{no_element, element_cases}

set_where : {V : Type 0} (a b : Bool) (o : Option V) (v : V) → (b ≡ true → a ≡ true)
    → cond a (cond b (Some v) o) None ≡ cond b (Some v) (cond a o None)
set_where true true o v h = refl
set_where true false o v h = refl
set_where false true o v h = let e : false ≡ true = h refl in absurd (cc)
set_where false false o v h = refl

set_elsewhere : {V : Type 0} (a b : Bool) (o : Option V) (v : V) → (b ≡ true → a ≡ false) → cond a (cond b (Some v) o) None ≡ cond a o None
set_elsewhere true true o v h = let e : true ≡ false = h refl in absurd (cc)
set_elsewhere true false o v h = refl
set_elsewhere false b o v h = refl

-- the entries whose keys pass a test
abbrev pub passing : {K V : Type 0} {R : K → K → Ordering} → (K → Bool) → finite.FinMap R V → List (K × V)
passing {K} {V} p m = filter (λ (e : K × V). p e.0) (finite.entries m)

nothing_kept : {V : Type 0} (a : Bool) (o : Option V) → (is_some o ≡ true → a ≡ false) → cond a o None ≡ None
nothing_kept true None h = refl
nothing_kept true (Some v) h = let e : true ≡ false = h refl in absurd (cc)
nothing_kept false o h = refl

kept_none : {V : Type 0} (a : Bool) (o : Option V) → o ≡ None → is_some (cond a o None) ≡ false
kept_none true o e = ap is_some e
kept_none false o e = refl

module _ {K : Type 0} {R : K → K → Ordering} (order : IsTotalOrder R) (exact : finite.IsAntisymmetric R) where
  alike : (p : K → Bool) (q x : K) → R q x ≡ Equal → p x ≡ p q
  alike p q x e = ap p (sym (exact q x e))

  same_as : (a b : K) → eq_by_cmp R a b ≡ true → a ≡ b
  same_as a b = (one_key order exact a b).0

module _ {K V : Type 0} {R : K → K → Ordering} (order : IsTotalOrder R) (exact : finite.IsAntisymmetric R) where
  get_kept : (m : finite.FinMap R V) (p : K → Bool) (q : K) → finite.get (finite.retain_keys m p) q ≡ cond (p q) (finite.get m q) None
  get_kept m p q = finite.get-retain_keys m p q (alike order exact p q)

  entries_kept : (m : finite.FinMap R V) (p : K → Bool) → finite.entries (finite.retain_keys m p) ≡ passing p m
  entries_kept m p = same_entries R order exact (finite.entries (finite.retain_keys m p)) (passing p m)
      (finite.entries_sorted (finite.retain_keys m p)) (is_sorted-where_key R p (finite.entries m) (finite.entries_sorted m))
      (λ q. sym (finite.get-entries (finite.retain_keys m p) q) ∙ get_kept m p q
      ∙ ap (λ (o : Option V). cond (p q) o None) (finite.get-entries m q)
      ∙ sym (find-where_key R p q (alike order exact p q) (finite.entries m)))

  pub length_passing : (p : K → Bool) (m : finite.FinMap R V) → length (passing p m) ≡ finite.len (finite.retain_keys m p)
  length_passing p m = sym (finite.len-entries (finite.retain_keys m p) ∙ ap length (entries_kept m p))

  kept_insert : (m : finite.FinMap R V) (p : K → Bool) (k : K) (v : V) (t : Bool) → p k ≡ t
      → finite.retain_keys (finite.insert m k v) p ≡ cond t (finite.insert (finite.retain_keys m p) k v) (finite.retain_keys m p)
  kept_insert m p k v true e = finite.same_map order exact _ _ (λ q. get_kept (finite.insert m k v) p q
      ∙ ap (λ (o : Option V). cond (p q) o None) (finite.get-insert order m k v q)
      ∙ set_where (p q) (eq_by_cmp R q k) (finite.get m q) v (λ h. ap p (same_as order exact q k h) ∙ e)
      ∙ sym (finite.get-insert order (finite.retain_keys m p) k v q ∙ ap (cond (eq_by_cmp R q k) (Some v)) (get_kept m p q)))
  kept_insert m p k v false e = finite.same_map order exact _ _ (λ q. get_kept (finite.insert m k v) p q
      ∙ ap (λ (o : Option V). cond (p q) o None) (finite.get-insert order m k v q)
      ∙ set_elsewhere (p q) (eq_by_cmp R q k) (finite.get m q) v (λ h. ap p (same_as order exact q k h) ∙ e)
      ∙ sym (get_kept m p q))

  -- a key that is new counts where it passes
  pub passing_new : (p : K → Bool) (m : finite.FinMap R V) (k : K) (v : V) → finite.get m k ≡ None
      → length (passing p (finite.insert m k v)) ≡ cond (p k) (length (passing p m) + 1) (length (passing p m))
  passing_new p m k v none = length_passing p (finite.insert m k v) ∙ by (p k) refl
    where
      absent : finite.contains_key (finite.retain_keys m p) k ≡ false
      absent = ap is_some (get_kept m p k) ∙ kept_none (p k) (finite.get m k) none

      by : (t : Bool) → p k ≡ t → finite.len (finite.retain_keys (finite.insert m k v) p)
          ≡ cond t (length (passing p m) + 1) (length (passing p m))
      by true e = ap finite.len (kept_insert m p k v true e) ∙ finite.len-insert order (finite.retain_keys m p) k v
          ∙ ap (λ b. cond b (finite.len (finite.retain_keys m p)) (finite.len (finite.retain_keys m p) + 1)) absent
          ∙ ap (λ n. n + 1) (sym (length_passing p m))
      by false e = ap finite.len (kept_insert m p k v false e) ∙ sym (length_passing p m)

  taken_back : (b : Bool) (v : V) (o : Option V) → (b ≡ true → o ≡ Some v) → cond b (Some v) (cond b None o) ≡ o
  taken_back true v o h = sym (h refl)
  taken_back false v o h = refl

  pub insert_removed : (m : finite.FinMap R V) (k : K) (v : V) → finite.get m k ≡ Some v → finite.insert (finite.remove m k) k v ≡ m
  insert_removed m k v e = finite.same_map order exact _ _ (λ q. finite.get-insert order (finite.remove m k) k v q
      ∙ ap (cond (eq_by_cmp R q k) (Some v)) (finite.get-remove order m k q)
      ∙ taken_back (eq_by_cmp R q k) v (finite.get m q) (λ h. ap (finite.get m) (same_as order exact q k h) ∙ e))

  get_removed : (m : finite.FinMap R V) (k : K) → finite.get (finite.remove m k) k ≡ None
  get_removed m k = finite.get-remove order m k k ∙ ap (λ b. cond b None (finite.get m k)) ((one_key order exact k k).1 refl)

  -- what is there counts one more than without it, where it passes
  pub passing_old : (p : K → Bool) (m : finite.FinMap R V) (k : K) → finite.contains_key m k ≡ true
      → length (passing p m) ≡ cond (p k) (length (passing p (finite.remove m k)) + 1) (length (passing p (finite.remove m k)))
  passing_old p m k e = let f = some_there (finite.get m k) e in
      ap (λ (n : finite.FinMap R V). length (passing p n)) (sym (insert_removed m k f.0 f.1))
      ∙ passing_new p (finite.remove m k) k f.0 (get_removed m k)

  -- where no key passes none is counted
  pub passing_none : (p : K → Bool) (m : finite.FinMap R V) → ((q : K) → finite.contains_key m q ≡ true → p q ≡ false)
      → length (passing p m) ≡ 0
  passing_none p m h = length_passing p m
      ∙ ap finite.len (finite.same_map order exact (finite.retain_keys m p) finite.empty
      (λ q. get_kept m p q ∙ nothing_kept (p q) (finite.get m q) (h q) ∙ sym (finite.get-empty R q)))
      ∙ finite.len-empty R V

  -- a key that passes is counted
  pub passing_some : (p : K → Bool) (m : finite.FinMap R V) (k : K) → finite.contains_key m k ≡ true → p k ≡ true
      → 1 ≤ length (passing p m)
  passing_some p m k e f = let h : length (passing p m) ≡ length (passing p (finite.remove m k)) + 1 = passing_old p m k e
      ∙ ap (λ b. cond b (length (passing p (finite.remove m k)) + 1) (length (passing p (finite.remove m k)))) f in omega arith

  -- a key that goes leaves one fewer
  pub len_removed : (m : finite.FinMap R V) (k : K) → finite.contains_key m k ≡ true → finite.len m ≡ finite.len (finite.remove m k) + 1
  len_removed m k e = let f = some_there (finite.get m k) e in
      ap finite.len (sym (insert_removed m k f.0 f.1)) ∙ finite.len-insert order (finite.remove m k) k f.0
      ∙ ap (λ b. cond b (finite.len (finite.remove m k)) (finite.len (finite.remove m k) + 1)) (ap is_some (get_removed m k))

  member_found : (es : List (K × V)) (x : K × V) → Contains es x → is_some (finite.find R x.0 es) ≡ true
  member_found [] x a = absurd (no_element x a)
  member_found (e ∷ es) x a = by (eq_by_cmp R x.0 e.0) refl (element_cases e es x a) (λ b. member_found es x b)
    where
      by : (t : Bool) → eq_by_cmp R x.0 e.0 ≡ t → (x ≡ e) ⊎ Contains es x → (Contains es x → is_some (finite.find R x.0 es) ≡ true)
          → is_some (cond t (Some e.1) (finite.find R x.0 es)) ≡ true
      by true f b rest = refl
      by false f (inl is) rest = let g : eq_by_cmp R x.0 e.0 ≡ true = (one_key order exact x.0 e.0).1 (ap (λ (p : K × V). p.0) is) in
          absurd (cc)
      by false f (inr b) rest = rest b

  -- each entry's key is there
  pub entry_there : (m : finite.FinMap R V) (x : K × V) → Contains (finite.entries m) x → finite.contains_key m x.0 ≡ true
  entry_there m x a = ap is_some (finite.get-entries m x.0) ∙ member_found (finite.entries m) x a
