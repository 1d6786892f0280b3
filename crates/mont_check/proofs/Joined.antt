-- What items show, joined, is bounded where what each shows is.
use Rattle.std.proofs.Common.{◌≡◌, ℕ, suc, List, [], ◌∷◌, Option, Some, None, refl, subst, arith}
use Rattle.std.specs.Prelude.{◌↔◌, All, fold}
use Rattle.std.proofs.lemmas.List.Elements.{All-cons}
use Rattle.mont_check.specs.Bounds.{joined, all_joined}

-- what holds of a number, if there is one
abbrev pub IfThere : (ℕ → Type 0) → Option ℕ → Type 0
IfThere P number = (n : ℕ) → number ≡ Some n → P n

abbrev pub AllShow : {A : Type 0} → (A → Option ℕ) → (ℕ → Type 0) → List A → Type 0
AllShow {A} shown P xs = All (λ (x : A). IfThere P (shown x)) xs

module _ (join : ℕ → ℕ → ℕ) (P : ℕ → Type 0) (both : (m n : ℕ) → P m → P n → P (join m n))
    (first : (m n : ℕ) → P (join m n) → P m) (second : (m n : ℕ) → P (join m n) → P n) where
  joined_both : (a b : Option ℕ) → IfThere P a → IfThere P b → IfThere P (joined join a b)
  joined_both None b p q k e = q k e
  joined_both (Some m) None p q k e = p k e
  joined_both (Some m) (Some n) p q k e =
      subst P (let same : join m n ≡ k = cc in same) (both m n (p m refl) (q n refl))

  joined_first : (a b : Option ℕ) → IfThere P (joined join a b) → IfThere P a
  joined_first None b p k e = absurd cc
  joined_first (Some m) None p k e = p k e
  joined_first (Some m) (Some n) p k e = subst P (let same : m ≡ k = cc in same) (first m n (p (join m n) refl))

  joined_second : (a b : Option ℕ) → IfThere P (joined join a b) → IfThere P b
  joined_second None b p k e = p k e
  joined_second (Some m) None p k e = absurd cc
  joined_second (Some m) (Some n) p k e = subst P (let same : n ≡ k = cc in same) (second m n (p (join m n) refl))

  module _ {A : Type 0} (shown : A → Option ℕ) where
    from : (a : Option ℕ) (xs : List A) → IfThere P a → AllShow shown P xs → IfThere P (fold (λ m x. joined join m (shown x)) a xs)
    from a [] p all = p
    from a (x ∷ xs) p all =
        from (joined join a (shown x)) xs (joined_both a (shown x) p (all 0 x (omega arith)))
        (λ k d low. all (suc k) d (omega arith))

    start_of : (a : Option ℕ) (xs : List A) → IfThere P (fold (λ m x. joined join m (shown x)) a xs) → IfThere P a
    start_of a [] p = p
    start_of a (x ∷ xs) p = joined_first a (shown x) (start_of (joined join a (shown x)) xs p)

    each_of : (a : Option ℕ) (xs : List A) → IfThere P (fold (λ m x. joined join m (shown x)) a xs) → AllShow shown P xs
    each_of a [] p k d low = absurd (omega arith)
    each_of a (x ∷ xs) p k d low =
        All-cons (λ (y : A). IfThere P (shown y)) x xs
        (joined_second a (shown x) (start_of (joined join a (shown x)) xs p))
        (each_of (joined join a (shown x)) xs p) k d low

    pub all_bounded : (xs : List A) → AllShow shown P xs ↔ IfThere P (all_joined join shown xs)
    all_bounded xs = (λ all. from None xs (λ n e. absurd cc) all, λ p. each_of None xs p)
