-- Two lists, item by item.
use Rattle.std.proofs.Common.{◌≡◌, ℕ, zero, suc, ◌+◌, ◌<◌, List, [], ◌∷◌, length, take, get_or, refl, ap, subst, arith}
use Rattle.std.specs.List.{AllZip}

module _ {A B : Type 0} (R : A → B → Type 0) where
  pub zip_length : (xs : List A) (ys : List B) → AllZip R xs ys → length xs ≡ length ys
  zip_length [] [] z = refl
  zip_length [] (y ∷ ys) z = absurd z
  zip_length (x ∷ xs) [] z = absurd z
  zip_length (x ∷ xs) (y ∷ ys) z = ap suc (zip_length xs ys z.1)

  -- the items at one place
  pub zip_at : (xs : List A) (ys : List B) (i : ℕ) (d : A) (e : B) → AllZip R xs ys → i < length xs → R (get_or xs i d) (get_or ys i e)
  zip_at [] ys i d e z low = absurd (omega arith)
  zip_at (x ∷ xs) [] i d e z low = absurd z
  zip_at (x ∷ xs) (y ∷ ys) zero d e z low = z.0
  zip_at (x ∷ xs) (y ∷ ys) (suc i) d e z low = zip_at xs ys i d e z.1 (omega arith)

  -- one more item of each
  zip_next : (xs : List A) (ys : List B) (i : ℕ) (d : A) (e : B) → i < length xs → i < length ys → AllZip R (take i xs) (take i ys)
      → R (get_or xs i d) (get_or ys i e) → AllZip R (take (suc i) xs) (take (suc i) ys)
  zip_next [] ys i d e low few z r = absurd (omega arith)
  zip_next (x ∷ xs) [] i d e low few z r = absurd (omega arith)
  zip_next (x ∷ xs) (y ∷ ys) zero d e low few z r = (r, tt)
  zip_next (x ∷ xs) (y ∷ ys) (suc i) d e low few z r = (z.0, zip_next xs ys i d e (omega arith) (omega arith) z.1 r)

  pub zip_more : (xs : List A) (ys : List B) (i : ℕ) (d : A) (e : B) → i < length xs → i < length ys → AllZip R (take i xs) (take i ys)
      → R (get_or xs i d) (get_or ys i e) → AllZip R (take (i + 1) xs) (take (i + 1) ys)
  zip_more xs ys i d e low few z r =
      let next : suc i ≡ i + 1 = omega arith in
      subst (λ (n : ℕ). AllZip R (take n xs) (take n ys)) next (zip_next xs ys i d e low few z r)

  -- a weaker relation
  pub zip_weaker : (S : A → B → Type 0) → ((x : A) (y : B) → R x y → S x y) → (xs : List A) (ys : List B) → AllZip R xs ys → AllZip S xs ys
  zip_weaker S from [] [] z = tt
  zip_weaker S from [] (y ∷ ys) z = z
  zip_weaker S from (x ∷ xs) [] z = z
  zip_weaker S from (x ∷ xs) (y ∷ ys) z = (from x y z.0, zip_weaker S from xs ys z.1)
