-- The elements of a list, one by one, and what a filter keeps of them.
use Rattle.std.proofs.Common.{◌≡◌, ℕ, zero, suc, ◌<◌, length, List, [], ◌∷◌, get_or, sym, refl, ap, ◌∙◌, subst, arith, Bool, true, false, cond, inl, inr, ◌⊎◌}
use Rattle.std.specs.Prelude.{filter, AllPairs, All}
use Rattle.std.specs.List.{Contains}
use Rattle.std.proofs.lemmas.List.Elements.{All-contains, Contains-get_or}

module _ {A : Type 0} where
  pub no_element : (a : A) → Contains [] a → ⊥
  no_element a h = let l = h.1 in absurd (omega arith)

  pub first_element : (b : A) (xs : List A) → Contains (b ∷ xs) b
  first_element b xs = (0, omega arith, refl)

  pub later_element : (b : A) (xs : List A) (a : A) → Contains xs a → Contains (b ∷ xs) a
  later_element b xs a h = let l = h.1 in (suc h.0, omega arith, h.2)

  pub element_cases : (b : A) (xs : List A) (a : A) → Contains (b ∷ xs) a → (a ≡ b) ⊎ Contains xs a
  element_cases b xs a h = by h.0 h.1 h.2
    where
      by : (k : ℕ) → k < length (b ∷ xs) → get_or (b ∷ xs) k a ≡ a → (a ≡ b) ⊎ Contains xs a
      by zero l e = inl (sym e)
      by (suc k) l e = inr (k, omega arith, e)

  module _ (p : A → Bool) where
    pub kept_element : (a : A) (xs : List A) → Contains (filter p xs) a → Contains xs a × (p a ≡ true)
    kept_element a [] h = absurd (no_element a h)
    kept_element a (b ∷ xs) h = by (p b) refl (λ c. kept_element a xs c) h
      where
        here : (a ≡ b) ⊎ Contains (filter p xs) a → p b ≡ true → (Contains (filter p xs) a → Contains xs a × (p a ≡ true))
            → Contains (b ∷ xs) a × (p a ≡ true)
        here (inl is) e rest = (subst (Contains (b ∷ xs)) (sym is) (first_element b xs), ap p is ∙ e)
        here (inr c) e rest = let k = rest c in (later_element b xs a k.0, k.1)

        by : (t : Bool) → p b ≡ t → (Contains (filter p xs) a → Contains xs a × (p a ≡ true))
            → Contains (cond t (b ∷ filter p xs) (filter p xs)) a → Contains (b ∷ xs) a × (p a ≡ true)
        by true e rest c = here (element_cases b (filter p xs) a c) e rest
        by false e rest c = let k = rest c in (later_element b xs a k.0, k.1)

    pub element_kept : (a : A) (xs : List A) → Contains xs a → p a ≡ true → Contains (filter p xs) a
    element_kept a [] h e = absurd (no_element a h)
    element_kept a (b ∷ xs) h e = by (p b) refl (λ c. element_kept a xs c e) (element_cases b xs a h)
      where
        by : (t : Bool) → p b ≡ t → (Contains xs a → Contains (filter p xs) a) → (a ≡ b) ⊎ Contains xs a
            → Contains (cond t (b ∷ filter p xs) (filter p xs)) a
        by true f rest (inl is) = subst (Contains (b ∷ filter p xs)) (sym is) (first_element b (filter p xs))
        by true f rest (inr c) = later_element b (filter p xs) a (rest c)
        by false f rest (inl is) = let g : p a ≡ p b = ap p is in absurd (cc)
        by false f rest (inr c) = rest c

  -- ---- lists of which each two elements are related
  module _ (R : A → A → Type 0) where
    pub pairs_head : (a : A) (xs : List A) → AllPairs R (a ∷ xs) → All (R a) xs
    pairs_head a xs h k d lt = h 0 (suc k) d (omega arith) (omega arith)

    pub pairs_tail : (a : A) (xs : List A) → AllPairs R (a ∷ xs) → AllPairs R xs
    pairs_tail a xs h i j d lt within = h (suc i) (suc j) d (omega arith) (omega arith)

    -- two of them are one, or one stands before the other
    pub pair_cases : (xs : List A) (a b : A) → AllPairs R xs → Contains xs a → Contains xs b → (a ≡ b) ⊎ (R a b ⊎ R b a)
    pair_cases [] a b h i j = absurd (no_element a i)
    pair_cases (c ∷ xs) a b h i j = by (element_cases c xs a i) (element_cases c xs b j) (λ i j. pair_cases xs a b (pairs_tail c xs h) i j)
      where
        by : (a ≡ c) ⊎ Contains xs a → (b ≡ c) ⊎ Contains xs b → (Contains xs a → Contains xs b → (a ≡ b) ⊎ (R a b ⊎ R b a))
            → (a ≡ b) ⊎ (R a b ⊎ R b a)
        by (inl e) (inl f) rest = inl (e ∙ sym f)
        by (inl e) (inr j) rest = inr (inl (subst (λ d. R d b) (sym e) (All-contains (R c) xs b (pairs_head c xs h) j)))
        by (inr i) (inl f) rest = inr (inr (subst (λ d. R d a) (sym f) (All-contains (R c) xs a (pairs_head c xs h) i)))
        by (inr i) (inr j) rest = rest i j

  -- what holds of each element holds of all
  pub all_elements : (P : A → Type 0) (xs : List A) → ((a : A) → Contains xs a → P a) → All P xs
  all_elements P xs h k d lt = h (get_or xs k d) (Contains-get_or xs k d lt)
