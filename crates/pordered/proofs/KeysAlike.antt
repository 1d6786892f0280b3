-- Two maps that have the same keys: what is told by the keys alone is told of both alike.
use Rattle.std.proofs.Common.{◌≡◌, ℕ, zero, suc, ◌-◌, Bool, true, false, cond, List, [], ◌∷◌, length, map, Option, Some, None, refl, sym, ap, subst, ◌∙◌}
use Rattle.std.specs.Prelude.{slice_get, is_some, ◌&&◌}
use lib.Dec.{T}
use Rattle.std.specs.List.{filter}
use Rattle.std.specs.Option.{option_map, unwrap_or}
use Rattle.std.specs.declared.cmp.Ordering.{Ordering}
use Rattle.std.specs.declared.cmp.Ordering.TheVariants.{Less, Equal, Greater}
use Rattle.std.specs.Ordering.{eq_by_cmp, is_eq, is_lt, ordering_reverse}
use Rattle.std.specs.Cmp.{IsTotalOrder, tied_itself, first_so, second_so}
use Rattle.std.specs.FinMap as finite
use Rattle.std.specs.FinMap.Entries.{find, is_sorted, below_all, same_entries}
use Rattle.std.proofs.lemmas.List.{length-map}
use Rattle.std.proofs.lemmas.Option.{slice_get-map}
use Rattle.mont_base.specs.State.{last_of}

is_less : (r : Ordering) → is_lt r ≡ true → r ≡ Less
is_less Less h = refl
is_less Equal h = cc
is_less Greater h = cc

-- ---- entries without their values
module _ {K X : Type 0} where
  abbrev pub key_in : K × X → K
  key_in e = e.0

  abbrev blank : K × X → K × ℕ
  blank e = (e.0, 0)

  blank_keys : (es : List (K × X)) → map (λ (e : K × ℕ). e.0) (map blank es) ≡ map key_in es
  blank_keys [] = refl
  blank_keys (e ∷ es) = ap (λ (ks : List K). e.0 ∷ ks) (blank_keys es)

  module _ (R : K → K → Ordering) where
    blank_below : (k : K) (es : List (K × X)) → below_all R k (map blank es) ≡ below_all R k es
    blank_below k [] = refl
    blank_below k (e ∷ es) = ap (λ (b : Bool). is_lt (R k e.0) && b) (blank_below k es)

    blank_sorted : (es : List (K × X)) → is_sorted R (map blank es) ≡ is_sorted R es
    blank_sorted [] = refl
    blank_sorted (e ∷ es) = λ i. blank_below e.0 es i && blank_sorted es i

    blank_found : (q : K) (es : List (K × X)) → find R q (map blank es) ≡ cond (is_some (find R q es)) (Some 0) None
    blank_found q [] = refl
    blank_found q (e ∷ es) = by (eq_by_cmp R q e.0) (blank_found q es)
      where
        by : (b : Bool) → find R q (map blank es) ≡ cond (is_some (find R q es)) (Some 0) None
            → cond b (Some 0) (find R q (map blank es)) ≡ cond (is_some (cond b (Some e.1) (find R q es))) (Some 0) None
        by true rest = refl
        by false rest = rest

    -- ---- what is at a place is found by its key
    module _ (o : IsTotalOrder R) where
      above : (k : K) (es : List (K × X)) (i : ℕ) (e : K × X) → below_all R k es ≡ true → slice_get es i ≡ Some e → R k e.0 ≡ Less
      above k [] i e h is = cc
      above k (x ∷ es) zero e h is =
          let same : x ≡ e = ap (λ (p : Option (K × X)). unwrap_or p x) is in
          ap (λ (y : K × X). R k y.0) (sym same) ∙ is_less _ (first_so (is_lt (R k x.0)) (below_all R k es) h)
      above k (x ∷ es) (suc i) e h is = above k es i e (second_so (is_lt (R k x.0)) (below_all R k es) h) is

      pub found_at : (es : List (K × X)) (i : ℕ) (e : K × X) → is_sorted R es ≡ true → slice_get es i ≡ Some e → find R e.0 es ≡ Some e.1
      found_at [] i e s is = cc
      found_at (x ∷ es) zero e s is =
          let same : x ≡ e = ap (λ (p : Option (K × X)). unwrap_or p x) is in
          ap (λ (y : K × X). find R y.0 (x ∷ es)) (sym same)
          ∙ ap (λ (r : Ordering). cond (is_eq r) (Some x.1) (find R x.0 es)) (tied_itself o x.0)
          ∙ ap (λ (y : K × X). Some y.1) same
      found_at (x ∷ es) (suc i) e s is =
          let less : R x.0 e.0 ≡ Less = above x.0 es i e (first_so (below_all R x.0 es) (is_sorted R es) s) is in
          let more : R e.0 x.0 ≡ Greater = o.antisymm e.0 x.0 ∙ ap ordering_reverse less in
          ap (λ (r : Ordering). cond (is_eq r) (Some x.1) (find R e.0 es)) more
          ∙ found_at es i e (second_so (below_all R x.0 es) (is_sorted R es) s) is

-- ---- two maps
module _ {K X Y : Type 0} {R : K → K → Ordering} (o : IsTotalOrder R) (same : finite.IsAntisymmetric R)
    (m : finite.FinMap R X) (n : finite.FinMap R Y)
    (alike : (q : K) → is_some (finite.get m q) ≡ is_some (finite.get n q)) where
  blank_alike : map blank (finite.entries m) ≡ map blank (finite.entries n)
  blank_alike = same_entries R o same _ _
      (subst T (sym (blank_sorted R (finite.entries m))) (finite.entries_sorted m))
      (subst T (sym (blank_sorted R (finite.entries n))) (finite.entries_sorted n))
      (λ q. blank_found R q (finite.entries m)
      ∙ ap (λ (b : Bool). cond b (Some 0) None)
      (ap is_some (sym (finite.get-entries m q)) ∙ alike q ∙ ap is_some (finite.get-entries n q))
      ∙ sym (blank_found R q (finite.entries n)))

  pub keys_alike : map key_in (finite.entries m) ≡ map key_in (finite.entries n)
  keys_alike = sym (blank_keys (finite.entries m)) ∙ ap (map (λ (e : K × ℕ). e.0)) blank_alike ∙ blank_keys (finite.entries n)

-- ---- what the keys alone tell
module _ {K X : Type 0} (p : K → Bool) where
  pub filter_keys : (es : List (K × X)) → map key_in (filter (λ (e : K × X). p e.0) es) ≡ filter p (map key_in es)
  filter_keys [] = refl
  filter_keys (e ∷ es) = by (p e.0) (filter_keys es)
    where
      by : (b : Bool) → map key_in (filter (λ (x : K × X). p x.0) es) ≡ filter p (map key_in es)
          → map key_in (cond b (e ∷ filter (λ (x : K × X). p x.0) es) (filter (λ (x : K × X). p x.0) es))
          ≡ cond b (e.0 ∷ filter p (map key_in es)) (filter p (map key_in es))
      by true rest = ap (λ (ks : List K). e.0 ∷ ks) rest
      by false rest = rest

module _ {K X Y : Type 0} (es : List (K × X)) (fs : List (K × Y)) (same : map key_in es ≡ map key_in fs) where
  pub long_alike : length es ≡ length fs
  long_alike = sym (length-map es key_in) ∙ ap length same ∙ length-map fs key_in

  pub at_alike : (i : ℕ) → option_map key_in (slice_get es i) ≡ option_map key_in (slice_get fs i)
  at_alike i = sym (slice_get-map key_in es i) ∙ ap (λ (ks : List K). slice_get ks i) same ∙ slice_get-map key_in fs i

  pub last_alike : option_map key_in (last_of es) ≡ option_map key_in (last_of fs)
  last_alike = at_alike (length es - 1) ∙ ap (λ (n : ℕ). option_map key_in (slice_get fs (n - 1))) long_alike

  pub filter_alike : (p : K → Bool) → map key_in (filter (λ (e : K × X). p e.0) es) ≡ map key_in (filter (λ (e : K × Y). p e.0) fs)
  filter_alike p = filter_keys p es ∙ ap (filter p) same ∙ sym (filter_keys p fs)
