-- Finite maps with one key set or removed, and keys that an order tells apart.
use Rattle.std.proofs.Common.{◌≡◌, ℕ, List, [], ◌∷◌, sym, refl, ap, ◌∙◌, subst, Bool, true, false, cond}
use Rattle.std.specs.Prelude.{Option, Some, None, is_some, ◌&&◌, filter}
use Rattle.std.specs.declared.cmp.Ordering.{Ordering}
use Rattle.std.specs.declared.cmp.Ordering.TheVariants.{Less, Equal, Greater}
use Rattle.std.specs.Bool.{Decides}
use Rattle.std.specs.List.{list_any}
use Rattle.std.specs.Cmp.{IsTotalOrder, eq_by_cmp_equiv, nat_cmp_total}
use Rattle.std.specs.Cmp.Lexicographic.{nat_list_cmp_total}
use Rattle.std.specs.Ordering.{eq_by_cmp, is_eq, nat_cmp}
use Rattle.std.specs.FinMap as finite
use Rattle.std.specs.Map.{update}
use Rattle.std.proofs.Math.Path.{fun_ext}
use Rattle.std.proofs.lemmas.Cmp.{on_total, then_total}
use Rattle.std.proofs.lemmas.Map.Lookups.{exact_pairs, exact_unsigned}
use Rattle.mont_base.specs.State.{Key, Ends, key_cmp, edge_cmp}

pub is_some_not : {A : Type 0} (o : Option A) → is_some o ≡ false → o ≡ None
is_some_not None e = refl
is_some_not (Some a) e = absurd (cc)

pub some_there : {A : Type 0} (o : Option A) → is_some o ≡ true → (a : A) × (o ≡ Some a)
some_there None e = absurd (cc)
some_there (Some a) e = (a, refl)

pub both_true : (a b : Bool) → (a && b) ≡ true → (a ≡ true) × (b ≡ true)
both_true true b e = (refl, e)
both_true false b e = absurd (cc)

-- a lawful order in which only equal keys tie tells keys apart
pub one_key : {K : Type 0} {R : K → K → Ordering} → IsTotalOrder R → finite.IsAntisymmetric R → (a b : K)
    → Decides (eq_by_cmp R a b) (a ≡ b)
one_key {R = R} order exact a b =
    (λ e. exact a b (tied (R a b) e), λ e. subst (λ c. eq_by_cmp R a c ≡ true) e ((eq_by_cmp_equiv order).refl a))
  where
    tied : (o : Ordering) → is_eq o ≡ true → o ≡ Equal
    tied Less e = absurd (cc)
    tied Equal e = refl
    tied Greater e = absurd (cc)

-- ---- the orders of texts, numbers and edges
pub texts_exact : finite.IsAntisymmetric key_cmp
texts_exact = finite.slice_cmp-IsAntisymmetric finite.nat_cmp-IsAntisymmetric

pub one_text : (a b : Key) → Decides (eq_by_cmp key_cmp a b) (a ≡ b)
one_text = one_key nat_list_cmp_total texts_exact

pub one_number : (a b : ℕ) → Decides (eq_by_cmp nat_cmp a b) (a ≡ b)
one_number = one_key nat_cmp_total finite.nat_cmp-IsAntisymmetric

pub edges_total : IsTotalOrder edge_cmp
edges_total = then_total (on_total (λ (e : Ends). e.0) nat_cmp_total) (on_total (λ (e : Ends). e.1) nat_cmp_total)

pub edges_exact : finite.IsAntisymmetric edge_cmp
edges_exact = exact_pairs nat_cmp nat_cmp exact_unsigned exact_unsigned

pub one_edge : (a b : Ends) → Decides (eq_by_cmp edge_cmp a b) (a ≡ b)
one_edge = one_key edges_total edges_exact

module _ {K V : Type 0} {R : K → K → Ordering} (order : IsTotalOrder R) (exact : finite.IsAntisymmetric R) where
  -- a map with one key changed
  pub insert_update : (m : finite.FinMap R V) (k : K) (v : V)
      → update (eq_by_cmp R) (finite.get m) k (Some v) ≡ finite.get (finite.insert m k v)
  insert_update m k v = fun_ext
      (λ q. ap (λ b. cond b (Some v) (finite.get m q)) ((eq_by_cmp_equiv order).symm k q) ∙ sym (finite.get-insert order m k v q))

  pub remove_update : (m : finite.FinMap R V) (k : K) → update (eq_by_cmp R) (finite.get m) k None ≡ finite.get (finite.remove m k)
  remove_update m k = fun_ext
      (λ q. ap (λ b. cond b None (finite.get m q)) ((eq_by_cmp_equiv order).symm k q) ∙ sym (finite.get-remove order m k q))

  -- what is found by a map is one of its keys
  pub any_filter : (p : K → Bool) (q : K) (es : List (K × V))
      → list_any (λ (e : K × V). eq_by_cmp R e.0 q) (filter (λ (e : K × V). p e.0) es) ≡ (p q && is_some (finite.find R q es))
  any_filter p q [] = none (p q)
    where
      none : (t : Bool) → false ≡ (t && false)
      none true = refl
      none false = refl
  any_filter p q (e ∷ es) = by (p e.0) refl (eq_by_cmp R e.0 q) refl (any_filter p q es)
      ∙ ap (λ t. p q && is_some (cond t (Some e.1) (finite.find R q es))) ((eq_by_cmp_equiv order).symm e.0 q)
    where
      by : (t : Bool) → p e.0 ≡ t → (u : Bool) → eq_by_cmp R e.0 q ≡ u
          → list_any (λ (e : K × V). eq_by_cmp R e.0 q) (filter (λ (e : K × V). p e.0) es) ≡ (p q && is_some (finite.find R q es))
          → list_any (λ (e : K × V). eq_by_cmp R e.0 q)
          (cond t (e ∷ filter (λ (e : K × V). p e.0) es) (filter (λ (e : K × V). p e.0) es)) ≡ (p q && is_some
          (cond (eq_by_cmp R e.0 q) (Some e.1) (finite.find R q es)))
      by true f true g rest = rw (g, sym (ap p ((one_key order exact e.0 q).0 g)) ∙ f) refl
      by true f false g rest = rw g rest
      by false f true g rest = let n : p q ≡ false = sym (ap p ((one_key order exact e.0 q).0 g)) ∙ f in
          rw (g, n) (rest ∙ ap (λ t. t && is_some (finite.find R q es)) n)
      by false f false g rest = rw g rest
