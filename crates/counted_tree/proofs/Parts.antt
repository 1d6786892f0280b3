-- The front and the back of a list that is an item between two others, and its item at a place.
use Rattle.std.proofs.lemmas.List.{set-append_left}
use Rattle.std.proofs.Common.{◌<◌, ◌-◌, set, ap, ◌∙◌, ◌≡◌, ℕ, zero, suc, ◌+◌, List, [], ◌∷◌, ◌++◌, length, take, drop, Some, refl, arith}
use Rattle.std.specs.Prelude.{slice_get}
use Rattle.std.proofs.Math.Seq.{take-append-add, drop-append-add, take-append_seam, set-append_seam}

module _ {A : Type 0} (x : A) where
  pub take_past : (l r : List A) (at n : ℕ) → at ≡ length l + suc n → take at (l ++ x ∷ r) ≡ l ++ x ∷ take n r
  take_past l r at n e = rw e (take-append-add l (x ∷ r) (suc n))

  pub drop_past : (l r : List A) (at n : ℕ) → at ≡ length l + suc n → drop at (l ++ x ∷ r) ≡ drop n r
  drop_past l r at n e = rw e (drop-append-add l (x ∷ r) (suc n))

  pub take_here : (l r : List A) (at : ℕ) → at ≡ length l → take at (l ++ x ∷ r) ≡ l
  take_here l r at e = rw e (take-append_seam l (x ∷ r))

  -- ---- the item at a place on the left, on the right, and in the middle
  pub get_left : (l r : List A) (at : ℕ) → at < length l → slice_get (l ++ x ∷ r) at ≡ slice_get l at
  get_left [] r at h = absurd (omega arith)
  get_left (y ∷ l) r zero h = refl
  get_left (y ∷ l) r (suc at) h = get_left l r at (omega arith)

  pub get_right : (l r : List A) (at : ℕ) → length l < at → slice_get (l ++ x ∷ r) at ≡ slice_get r (at - length l - 1)
  get_right [] r zero h = absurd (omega arith)
  get_right [] r (suc at) h = let e : at ≡ suc at - 0 - 1 = omega arith in ap (slice_get r) e
  get_right (y ∷ l) r zero h = absurd (omega arith)
  get_right (y ∷ l) r (suc at) h =
      let e : at - length l - 1 ≡ suc at - suc (length l) - 1 = omega arith in get_right l r at (omega arith) ∙ ap (slice_get r) e

  pub get_here : (l r : List A) (at : ℕ) → at ≡ length l → slice_get (l ++ x ∷ r) at ≡ Some x
  get_here [] r at e = rw e refl
  get_here (y ∷ l) r zero e = absurd (omega arith)
  get_here (y ∷ l) r (suc at) e = get_here l r at (omega arith)

  -- ---- another item there
  pub set_left : (l r : List A) (at : ℕ) (z : A) → at < length l → set (l ++ x ∷ r) at z ≡ set l at z ++ x ∷ r
  set_left l r at z h = set-append_left l (x ∷ r) at z h

  pub set_right : (l r : List A) (at : ℕ) (z : A) → length l < at → set (l ++ x ∷ r) at z ≡ l ++ x ∷ set r (at - length l - 1) z
  set_right [] r zero z h = absurd (omega arith)
  set_right [] r (suc at) z h = let e : at ≡ suc at - 0 - 1 = omega arith in ap (λ n. x ∷ set r n z) e
  set_right (y ∷ l) r zero z h = absurd (omega arith)
  set_right (y ∷ l) r (suc at) z h =
      let e : at - length l - 1 ≡ suc at - suc (length l) - 1 = omega arith in
      ap (λ m. y ∷ m) (set_right l r at z (omega arith) ∙ ap (λ n. l ++ x ∷ set r n z) e)

  pub set_here : (l r : List A) (at : ℕ) (z : A) → at ≡ length l → set (l ++ x ∷ r) at z ≡ l ++ z ∷ r
  set_here l r at z e = rw e (set-append_seam l x r z)
