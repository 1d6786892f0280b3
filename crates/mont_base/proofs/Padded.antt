-- Lists in place, with one filler after their last element.
use Rattle.std.proofs.Common.{◌≡◌, ℕ, suc, ◌+◌, ◌-◌, ◌<◌, ◌≤◌, List, ◌++◌, take, drop, length, set, replicate, sym, ap, ◌∙◌, arith, length-take}
use Rattle.std.proofs.lemmas.List.{drop-set-lt, drop-drop, drop-append-le, drop_all, take-append-drop}

module _ {A : Type 0} (filler : A) (most : ℕ) where
  -- one filler fewer stands after
  pub behind_more :
      (xs : List A) (i : ℕ) (x : A) → i < most → i < length xs → drop i xs ≡ replicate (most - i) filler
      → drop (i + 1) (set xs i x) ≡ replicate (most - (i + 1)) filler
  behind_more xs i x room inside e =
      let less : most - i ≡ suc (most - (i + 1)) = omega arith in
      drop-set-lt (i + 1) xs i x (omega arith)
      ∙ sym (drop-drop 1 i xs)
      ∙ ap (drop 1) (e ∙ ap (λ (n : ℕ). replicate n filler) less)

  -- the list, and the fillers after it
  pub whole : (xs : List A) (n : ℕ) → n ≤ most → length xs ≡ most → drop n xs ≡ replicate (most - n) filler
      → xs ≡ take n xs ++ replicate (most - length (take n xs)) filler
  whole xs n few long behind =
      let count : length (take n xs) ≡ n = omega (arith, length-take n xs) in
      sym (take-append-drop n xs)
      ∙ ap (λ (ys : List A). take n xs ++ ys) (behind ∙ ap (λ (m : ℕ). replicate (most - m) filler) (sym count))

  -- and back
  pub behind : (xs : List A) (n : ℕ) → n ≤ most → length xs ≡ most → xs ≡ take n xs ++ replicate (most - length (take n xs)) filler
      → drop n xs ≡ replicate (most - n) filler
  behind xs n few long e =
      let count : length (take n xs) ≡ n = omega (arith, length-take n xs) in
      let fill = replicate (most - length (take n xs)) filler in
      ap (drop n) e
      ∙ drop-append-le n (take n xs) fill (omega arith)
      ∙ ap (λ (ys : List A). ys ++ fill) (drop_all n (take n xs) (omega arith))
      ∙ ap (λ (m : ℕ). replicate (most - m) filler) count
