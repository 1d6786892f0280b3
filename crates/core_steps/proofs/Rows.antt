-- Lists that are changed at one place.
use Rattle.std.proofs.Common.{◌≡◌, ℕ, zero, suc, ◌<◌, ◌≤◌, ◌≢◌, ◌⊎◌, List, [], ◌∷◌, length, set, get_or, replicate, sym, refl, ap, subst, inl, inr, ⊎_elim, arith}
use Rattle.std.specs.Prelude.{slice_get, Some}
use Rattle.std.proofs.lemmas.Option.{same_Some}
use Rattle.core_steps.specs.Places.{EachAt}

module _ {A : Type 0} where
  -- what stands at a place after a change of one place
  pub row_set : (l : List A) (i j : ℕ) (a b : A) → slice_get (set l i a) j ≡ Some b
      → ((j ≡ i) × (a ≡ b)) ⊎ ((j ≢ i) × (slice_get l j ≡ Some b))
  row_set [] i j a b e = absurd (cc)
  row_set (x ∷ xs) zero zero a b e = inl (refl, same_Some a b e)
  row_set (x ∷ xs) zero (suc j) a b e = inr ((λ h. omega arith), e)
  row_set (x ∷ xs) (suc i) zero a b e = inr ((λ h. omega arith), e)
  row_set (x ∷ xs) (suc i) (suc j) a b e =
      ⊎_elim (λ t. inl (ap suc t.0, t.1)) (λ t. let n = t.0 in inr ((λ h. n (omega arith)), t.1)) (row_set xs i j a b e)

  -- what holds of each item holds after a change of one, if it holds of the new item and the change leaves
  -- what is said of the others
  pub each_set :
      (P : ℕ → A → Type 0) (l : List A) (i : ℕ) (a : A) → ((j : ℕ) (b : A) → j ≢ i → slice_get l j ≡ Some b → P j b) → P i a
      → EachAt P (set l i a)
  each_set P l i a others mine j b e =
      ⊎_elim
      (λ (t : (j ≡ i) × (a ≡ b)). subst (λ (y : ℕ × A). P y.0 y.1) (λ k. (sym t.0 k, t.1 k)) mine)
      (λ (t : (j ≢ i) × (slice_get l j ≡ Some b)). others j b t.0 t.1)
      (row_set l i j a b e)

  pub row_here : (l : List A) (i : ℕ) (a b : A) → slice_get l i ≡ Some b → slice_get (set l i a) i ≡ Some a
  row_here [] i a b e = absurd (cc)
  row_here (x ∷ xs) zero a b e = refl
  row_here (x ∷ xs) (suc i) a b e = row_here xs i a b e

  pub row_else : (l : List A) (i j : ℕ) (a : A) → j ≢ i → slice_get (set l i a) j ≡ slice_get l j
  row_else [] i j a n = refl
  row_else (x ∷ xs) zero zero a n = absurd (n refl)
  row_else (x ∷ xs) zero (suc j) a n = refl
  row_else (x ∷ xs) (suc i) zero a n = refl
  row_else (x ∷ xs) (suc i) (suc j) a n = row_else xs i j a (λ e. n (ap suc e))

  -- the item that stands at a place already changes nothing
  pub row_same : (l : List A) (i : ℕ) (a : A) → slice_get l i ≡ Some a → set l i a ≡ l
  row_same [] i a e = refl
  row_same (x ∷ xs) zero a e = λ k. sym (same_Some x a e) k ∷ xs
  row_same (x ∷ xs) (suc i) a e = λ k. x ∷ row_same xs i a e k

  -- a place after the end changes nothing
  pub row_past : (l : List A) (i : ℕ) (a : A) → length l ≤ i → set l i a ≡ l
  row_past [] i a h = refl
  row_past (x ∷ xs) zero a h = absurd (omega arith)
  row_past (x ∷ xs) (suc i) a h = λ k. x ∷ row_past xs i a (omega arith) k

  -- the first item of a list that was changed there
  pub first_set : (l : List A) (a d : A) → 0 < length l → get_or (set l 0 a) 0 d ≡ a
  first_set [] a d h = absurd (omega arith)
  first_set (x ∷ xs) a d h = refl

  -- copies of one item
  pub row_copy : (n i : ℕ) (a b : A) → slice_get (replicate n a) i ≡ Some b → (a ≡ b) × (i < n)
  row_copy zero i a b e = absurd (cc)
  row_copy (suc n) zero a b e = (same_Some a b e, omega arith)
  row_copy (suc n) (suc i) a b e = let r = row_copy n i a b e in let l = r.1 in (r.0, omega arith)

  pub copy_row : (n i : ℕ) (a : A) → i < n → slice_get (replicate n a) i ≡ Some a
  copy_row zero i a l = absurd (omega arith)
  copy_row (suc n) zero a l = refl
  copy_row (suc n) (suc i) a l = copy_row n i a (omega arith)
