-- The elements of a list that others are made into, and of a range.
use Rattle.std.proofs.Common.{◌≡◌, ℕ, zero, suc, ◌+◌, ◌<◌, ◌≤◌, ◌⊎◌, List, [], ◌∷◌, sym, refl, ap, ◌∙◌, subst, ⊎_elim, arith}
use Rattle.std.specs.Prelude.{Option, Some, None, AllPairs}
use Rattle.std.specs.List.{Contains, filter_map, cons_option, range_with_len}
use Rattle.std.proofs.lemmas.List.Kept.{AllPairs-cons}
use Rattle.mont_laws.proofs.Members.{no_element, first_element, later_element, element_cases, all_elements}

module _ {A B : Type 0} (f : A → Option B) where
  pub mapped_from : (b : B) (xs : List A) → Contains (filter_map f xs) b → (a : A) × Contains xs a × (f a ≡ Some b)
  mapped_from b [] h = absurd (no_element b h)
  mapped_from b (x ∷ xs) h = by (f x) refl (λ k. mapped_from b xs k) h
    where
      From : List A → Type 0
      From ys = (a : A) × Contains ys a × (f a ≡ Some b)

      by : (o : Option B) → f x ≡ o → (Contains (filter_map f xs) b → From xs)
          → Contains (cons_option o (filter_map f xs)) b → From (x ∷ xs)
      by None e rest h = let r = rest h in (r.0, later_element x xs r.0 r.1, r.2)
      by (Some c) e rest h = ⊎_elim
          (λ (is : b ≡ c). (x, first_element x xs, e ∙ ap Some (sym is)))
          (λ (k : Contains (filter_map f xs) b). let r = rest k in (r.0, later_element x xs r.0 r.1, r.2))
          (element_cases c (filter_map f xs) b h)

  pub mapped_to : (a : A) (b : B) (xs : List A) → Contains xs a → f a ≡ Some b → Contains (filter_map f xs) b
  mapped_to a b [] h e = absurd (no_element a h)
  mapped_to a b (x ∷ xs) h e = ⊎_elim
      (λ (is : a ≡ x). subst (λ (o : Option B). Contains (cons_option o (filter_map f xs)) b) (sym e ∙ ap f is)
      (first_element b (filter_map f xs)))
      (λ (k : Contains xs a). behind (f x) (mapped_to a b xs k e))
      (element_cases x xs a h)
    where
      behind : (o : Option B) → Contains (filter_map f xs) b → Contains (cons_option o (filter_map f xs)) b
      behind None k = k
      behind (Some c) k = later_element c (filter_map f xs) b k

  pub filter_map_agree : (g : A → Option B) (xs : List A) → ((a : A) → Contains xs a → f a ≡ g a) → filter_map f xs ≡ filter_map g xs
  filter_map_agree g [] e = refl
  filter_map_agree g (x ∷ xs) e =
      ap (λ (o : Option B). cons_option o (filter_map f xs)) (e x (first_element x xs))
      ∙ ap (cons_option (g x)) (filter_map_agree g xs (λ a k. e a (later_element x xs a k)))

  pub filter_map_none : (xs : List A) → ((a : A) → f a ≡ None) → filter_map f xs ≡ []
  filter_map_none [] e = refl
  filter_map_none (x ∷ xs) e = ap (λ (o : Option B). cons_option o (filter_map f xs)) (e x) ∙ filter_map_none xs e

-- ---- ranges
pub range_bounds : (x a n : ℕ) → Contains (range_with_len a n) x → (a ≤ x) × (x < a + n)
range_bounds x a zero h = absurd (no_element x h)
range_bounds x a (suc n) h = ⊎_elim
    (λ (e : x ≡ a). (omega arith, omega arith))
    (λ (k : Contains (range_with_len (a + 1) n) x). let r = range_bounds x (a + 1) n k in
    let low = r.0 in let high = r.1 in (omega arith, omega arith))
    (element_cases a (range_with_len (a + 1) n) x h)

first_or_later : (x a : ℕ) → a ≤ x → (x ≡ a) ⊎ (a + 1 ≤ x)
first_or_later x a low = grind arith

pub in_range : (x a n : ℕ) → a ≤ x → x < a + n → Contains (range_with_len a n) x
in_range x a zero low high = absurd (omega arith)
in_range x a (suc n) low high = ⊎_elim
    (λ (e : x ≡ a). subst (Contains (range_with_len a (suc n))) (sym e) (first_element a (range_with_len (a + 1) n)))
    (λ (l : a + 1 ≤ x). later_element a (range_with_len (a + 1) n) x (in_range x (a + 1) n l (omega arith)))
    (first_or_later x a low)

pub range_rises : (a n : ℕ) → AllPairs (λ (x y : ℕ). x < y) (range_with_len a n)
range_rises a zero = λ i j d low high. absurd (omega arith)
range_rises a (suc n) = AllPairs-cons (λ (x y : ℕ). x < y) a (range_with_len (a + 1) n)
    (all_elements (λ (y : ℕ). a < y) (range_with_len (a + 1) n)
    (λ y h. let bounds = range_bounds y (a + 1) n h in let low = bounds.0 in omega arith))
    (range_rises (a + 1) n)
