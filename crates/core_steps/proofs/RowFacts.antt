-- What stands at a place of a list, also after an item is added or changed.
use Rattle.std.proofs.Common.{◌≡◌, ℕ, zero, suc, ◌<◌, ◌≢◌, ◌⊎◌, List, [], ◌∷◌, ◌++◌, length, map, set, get_or, sym, refl, ap, ◌∙◌, subst, inl, inr, ⊎_elim, arith}
use Rattle.std.specs.Prelude.{slice_get, Option, Some, None, All, sum_by}
use Rattle.std.specs.List.{AllZip}
use Rattle.std.proofs.lemmas.List.Sums.{sum_by-cons}
use Rattle.std.proofs.lemmas.Option.{same_Some, slice_get-get_or}
use Rattle.core_steps.specs.Places.{EachAt, RowHas}

module _ {A : Type 0} where
  -- each place of a list has an item
  pub item_at : (l : List A) (i : ℕ) → i < length l → (a : A) × (slice_get l i ≡ Some a)
  item_at [] i h = absurd (omega arith)
  item_at (x ∷ xs) zero h = (x, refl)
  item_at (x ∷ xs) (suc i) h = item_at xs i (omega arith)

  -- and only one
  pub same_item : (l : List A) (i : ℕ) (a b : A) → slice_get l i ≡ Some a → slice_get l i ≡ Some b → a ≡ b
  same_item l i a b e f = same_Some a b (sym e ∙ f)

  -- ---- what holds of the item that was found
  pub row_from : (P : A → Type 0) (o : Option A) (a : A) → o ≡ Some a → P a → RowHas o P
  row_from P o a e p = subst (λ t. RowHas t P) (sym e) p

  -- what holds of a row holds of the item that was found
  pub row_gives : (P : A → Type 0) (o : Option A) → RowHas o P → (a : A) × (o ≡ Some a) × P a
  row_gives P None h = absurd h
  row_gives P (Some a) h = (a, refl, h)

  -- a change keeps what was found, where it keeps it of the item that it replaces
  pub row_has_set :
      (P : A → Type 0) (l : List A) (i j : ℕ) (a b : A) → slice_get l i ≡ Some b → (P b → P a) → RowHas (slice_get l j) P
      → RowHas (slice_get (set l i a) j) P
  row_has_set P [] i j a b e f h = absurd h
  row_has_set P (x ∷ xs) zero zero a b e f h = f (subst P (same_Some x b e) h)
  row_has_set P (x ∷ xs) zero (suc j) a b e f h = h
  row_has_set P (x ∷ xs) (suc i) zero a b e f h = h
  row_has_set P (x ∷ xs) (suc i) (suc j) a b e f h = row_has_set P xs i j a b e f h

  -- ---- an item after all others
  pub row_before : (l m : List A) (i : ℕ) (a : A) → slice_get l i ≡ Some a → slice_get (l ++ m) i ≡ Some a
  row_before [] m i a e = absurd (cc)
  row_before (x ∷ xs) m zero a e = e
  row_before (x ∷ xs) m (suc i) a e = row_before xs m i a e

  -- the last item
  pub row_last : (l : List A) (a : A) → slice_get (l ++ a ∷ []) (length l) ≡ Some a
  row_last [] a = refl
  row_last (x ∷ xs) a = row_last xs a

  -- one of the earlier items, or the last one
  pub row_push : (l : List A) (i : ℕ) (a b : A) → slice_get (l ++ a ∷ []) i ≡ Some b → (slice_get l i ≡ Some b) ⊎ ((i ≡ length l) × (a ≡ b))
  row_push [] zero a b e = inr (refl, same_Some a b e)
  row_push [] (suc i) a b e = absurd (cc)
  row_push (x ∷ xs) zero a b e = inl e
  row_push (x ∷ xs) (suc i) a b e = ⊎_elim inl (λ t. inr (ap suc t.0, t.1)) (row_push xs i a b e)

  -- what holds of each item holds with one more
  pub each_push : (P : ℕ → A → Type 0) (l : List A) (a : A) → EachAt P l → P (length l) a → EachAt P (l ++ a ∷ [])
  each_push P l a each last i b e =
      ⊎_elim
      (λ (t : slice_get l i ≡ Some b). each i b t)
      (λ (t : (i ≡ length l) × (a ≡ b)). subst (λ (y : ℕ × A). P y.0 y.1) (λ k. (sym t.0 k, t.1 k)) last)
      (row_push l i a b e)

  -- ---- what holds of all
  pub all_at : (P : A → Type 0) (l : List A) → EachAt (λ i a. P a) l → All P l
  all_at P l each i d inside = each i (get_or l i d) (slice_get-get_or l i d inside)

-- ---- two lists, item by item
module _ {A B : Type 0} (R : A → B → Type 0) where
  -- an item of the first list, and the one at its place in the second
  pub zip_of_left : (l : List A) (m : List B) (i : ℕ) (a : A) → AllZip R l m → slice_get l i ≡ Some a
      → (b : B) × (slice_get m i ≡ Some b) × R a b
  zip_of_left [] m i a z e = absurd (cc)
  zip_of_left (x ∷ xs) [] i a z e = absurd z
  zip_of_left (x ∷ xs) (y ∷ ys) zero a z e = (y, refl, subst (λ t. R t y) (same_Some x a e) z.0)
  zip_of_left (x ∷ xs) (y ∷ ys) (suc i) a z e = zip_of_left xs ys i a z.1 e

  -- an item of the second, and the one at its place in the first
  pub zip_of_right : (l : List A) (m : List B) (i : ℕ) (b : B) → AllZip R l m → slice_get m i ≡ Some b
      → (a : A) × (slice_get l i ≡ Some a) × R a b
  zip_of_right l [] i b z e = absurd (cc)
  zip_of_right [] (y ∷ ys) i b z e = absurd z
  zip_of_right (x ∷ xs) (y ∷ ys) zero b z e = (x, refl, subst (λ t. R x t) (same_Some y b e) z.0)
  zip_of_right (x ∷ xs) (y ∷ ys) (suc i) b z e = zip_of_right xs ys i b z.1 e

-- ---- a mapped list
module _ {A B : Type 0} (f : A → B) where
  -- an item of the mapped list comes from one of the list
  pub row_of_map : (l : List A) (i : ℕ) (b : B) → slice_get (map f l) i ≡ Some b → (a : A) × (slice_get l i ≡ Some a) × (f a ≡ b)
  row_of_map [] i b e = absurd (cc)
  row_of_map (x ∷ xs) zero b e = (x, refl, same_Some (f x) b e)
  row_of_map (x ∷ xs) (suc i) b e = row_of_map xs i b e

  -- and each of the list gives one
  pub row_in_map : (l : List A) (i : ℕ) (a : A) → slice_get l i ≡ Some a → slice_get (map f l) i ≡ Some (f a)
  row_in_map [] i a e = absurd (cc)
  row_in_map (x ∷ xs) zero a e = ap Some (ap f (same_Some x a e))
  row_in_map (x ∷ xs) (suc i) a e = row_in_map xs i a e

-- ---- a sum to which one item gives 1 and all others give nothing
module _ {A : Type 0} (f : A → ℕ) where
  -- no item gives anything
  pub sum_of_none : (l : List A) → EachAt (λ i a. f a ≡ 0) l → sum_by f l ≡ 0
  sum_of_none [] none = refl
  sum_of_none (x ∷ xs) none =
      let rest = sum_of_none xs (λ j b e. none (suc j) b e) in
      let first = none 0 x refl in
      omega (arith, sum_by-cons f x xs)

  -- one item gives 1
  pub sum_of_one : (l : List A) (i : ℕ) (a : A) → slice_get l i ≡ Some a → f a ≡ 1
      → ((j : ℕ) (b : A) → j ≢ i → slice_get l j ≡ Some b → f b ≡ 0) → sum_by f l ≡ 1
  sum_of_one [] i a e one none = absurd (cc)
  sum_of_one (x ∷ xs) zero a e one none =
      let rest = sum_of_none xs (λ j b e. none (suc j) b (λ z. omega arith) e) in
      let first : f x ≡ 1 = ap f (same_Some x a e) ∙ one in
      omega (arith, sum_by-cons f x xs)
  sum_of_one (x ∷ xs) (suc i) a e one none =
      let rest = sum_of_one xs i a e one (λ j b n e. none (suc j) b (λ z. n (omega arith)) e) in
      let first = none 0 x (λ z. omega arith) refl in
      omega (arith, sum_by-cons f x xs)
