-- What holds of each element of a list at its place.
use Rattle.std.proofs.Common.{◌≡◌, ℕ, ◌+◌, ◌<◌, ◌≤◌, List, length, get_or, Some, subst, ◌∙◌, sym, arith, ⊎_elim}
use Rattle.std.specs.Prelude.{slice_get}
use Rattle.std.specs.List.{All}
use Rattle.std.proofs.lemmas.Bool.{cases_lt}
use Rattle.std.proofs.lemmas.Option.{get_or_from_slice_get, slice_get-get_or, slice_get_read, slice_get_within}

module _ {A : Type 0} (P : ℕ → A → Type 0) (xs : List A) where
  abbrev pub Each : Type 0
  Each = (k : ℕ) (x : A) → slice_get xs k ≡ Some x → P k x

  abbrev pub EachBelow : ℕ → Type 0
  EachBelow n = (k : ℕ) (x : A) → k < n → slice_get xs k ≡ Some x → P k x

  pub below_none : EachBelow 0
  below_none k x lt is = absurd (omega arith)

  pub below_one_more : (i : ℕ) (y : A) → i < length xs → y ≡ get_or xs i y → P i y → EachBelow i → EachBelow (i + 1)
  below_one_more i y inside read here before k x lt is = ⊎_elim
      (λ (h : k < i). before k x h is)
      (λ (h : i ≤ k).
      let same : i ≡ k = omega arith in
      let read_at : slice_get xs k ≡ Some y =
      subst (λ (n : ℕ). slice_get xs n ≡ Some y) same (slice_get_read xs (length xs) i y (λ _. length xs) inside read) in
      let alike : y ≡ x = sym (get_or_from_slice_get xs k y x read_at) ∙ get_or_from_slice_get xs k x x is in
      subst (λ (n : ℕ). P n x) same (subst (P i) alike here))
      (cases_lt k i)

  pub below_whole : (n : ℕ) → length xs ≤ n → EachBelow n → Each
  below_whole n past below k x is = below k x (omega (arith, slice_get_within xs k x is)) is

  pub each_at : (i : ℕ) (y : A) → i < length xs → y ≡ get_or xs i y → Each → P i y
  each_at i y inside read each = each i y (slice_get_read xs (length xs) i y (λ _. length xs) inside read)

module _ {A : Type 0} (P : A → Type 0) (xs : List A) where
  pub all_each : All P xs → Each (λ _ x. P x) xs
  all_each all k x is = subst P (get_or_from_slice_get xs k x x is) (all k x (slice_get_within xs k x is))

  pub each_all : Each (λ _ x. P x) xs → All P xs
  each_all each k d inside = each k (get_or xs k d) (slice_get-get_or xs k d inside)
