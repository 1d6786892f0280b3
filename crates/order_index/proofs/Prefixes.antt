-- Of entries by rising key, those up to a key are the first ones, and those between two keys stand together.
use Rattle.std.proofs.Common.{◌⊎◌, inl, inr, ◌≡◌, ℕ, zero, suc, ◌+◌, ◌-◌, ◌<◌, ◌≤◌, Bool, true, false, List, [], ◌∷◌, length, take, drop, refl, sym, ap, ◌∙◌, arith, length-take, length-drop}
use Rattle.std.specs.Prelude.{◌&&◌, not, slice_get}
use Rattle.std.specs.declared.cmp.Ordering.{Ordering}
use Rattle.std.specs.declared.cmp.Ordering.TheVariants.{Less, Equal, Greater}
use Rattle.std.specs.Ordering.{is_lt, is_le, ordering_reverse}
use Rattle.std.specs.List.{filter}
use Rattle.std.specs.Cmp.{IsTotalOrder, second_so}
use Rattle.std.specs.FinMap.Entries.{is_sorted, below_all}
use Rattle.std.proofs.Math.Seq.{drop-nil}
use Rattle.std.proofs.lemmas.Bool.{cases_lt}
use Rattle.std.proofs.lemmas.List.Filters.{length-filter_both}
use Rattle.mont_base.specs.State.{last_of}
use Rattle.counted_tree.specs.Order.{stands_before, count_to, count_below, count_up_to}
use Rattle.counted_tree.proofs.Counts.{none_from}

either : (b : Bool) → (b ≡ true) ⊎ (b ≡ false)
either true = inl refl
either false = inr refl

turned : (r : Ordering) → is_le (ordering_reverse r) ≡ not (is_lt r)
turned Less = refl
turned Equal = refl
turned Greater = refl

-- ---- what is at a place of the first ones
module _ {A : Type 0} where
  of_take : (n : ℕ) (xs : List A) (i : ℕ) → i < n → slice_get (take n xs) i ≡ slice_get xs i
  of_take zero xs i l = absurd (omega arith)
  of_take (suc n) [] i l = refl
  of_take (suc n) (x ∷ xs) zero l = refl
  of_take (suc n) (x ∷ xs) (suc i) l = of_take n xs i (omega arith)

  pub last_first : (n : ℕ) (xs : List A) → 1 ≤ n → n ≤ length xs → last_of (take n xs) ≡ slice_get xs (n - 1)
  last_first n xs some within =
      let t : length (take n xs) ≡ n = omega (arith, length-take n xs, within) in
      ap (λ k. slice_get (take n xs) (k - 1)) t ∙ of_take n xs (n - 1) (omega (arith, some))

  -- of those after a place, up to another
  pub middle_length : (a b : ℕ) (xs : List A) → b ≤ length xs → length (drop a (take b xs)) ≡ b - a
  middle_length a b xs within = let d = length-drop a (take b xs) in let t = length-take b xs in omega (arith, d, t, within)

  -- where the other is before the place there are none
  pub none_middle : (a b : ℕ) (xs : List A) → b ≤ a → drop a (take b xs) ≡ drop a (take a xs)
  none_middle a b xs less =
      none a (take b xs) (omega (arith, length-take b xs, less)) ∙ sym (none a (take a xs) (omega (arith, length-take a xs)))
    where
      none : (n : ℕ) (ys : List A) → length ys ≤ n → drop n ys ≡ []
      none zero [] h = refl
      none zero (y ∷ ys) h = absurd (omega arith)
      none (suc n) [] h = refl
      none (suc n) (y ∷ ys) h = none n ys (omega arith)

-- ---- entries in order
module _ {K X : Type 0} {R : K → K → Ordering} (o : IsTotalOrder R) where
  tail : (e : K × X) (es : List (K × X)) → is_sorted R (e ∷ es) ≡ true → is_sorted R es ≡ true
  tail e es s = second_so (below_all R e.0 es) (is_sorted R es) s

  -- where the first doesn't stand before a key, none does
  none_more : (w : Bool) (key : K) (e : K × X) (es : List (K × X)) → is_sorted R (e ∷ es) ≡ true → stands_before w (R e.0 key) ≡ false
      → (count_to R w key (e ∷ es) ≡ 0) × (count_to R w key es ≡ 0)
  none_more w key e es s h = let none = none_from o w key e es s h in (ap length none, ap length (rw h at none))

  pub up_to_first : (key : K) (es : List (K × X)) → is_sorted R es ≡ true
      → filter (λ (e : K × X). is_le (R e.0 key)) es ≡ take (count_up_to R key es) es
  up_to_first key [] s = refl
  up_to_first key (e ∷ es) s = elim (either (is_le (R e.0 key))) [
    | inl h ↦ rw h (ap (λ (l : List (K × X)). e ∷ l) (up_to_first key es (tail e es s)))
    | inr h ↦ let none = none_from o true key e es s h in rw none refl
  ]

  module _ (from to : K) where
    abbrev is_between : K × X → Bool
    is_between e = is_le (R from e.0) && is_le (R e.0 to)

    -- where the first isn't below the one key, and where it is
    from_here : (e : K × X) (a : Bool) → is_lt (R e.0 from) ≡ a → is_le (R from e.0) ≡ not a
    from_here e a h = ap is_le (o.antisymm from e.0) ∙ turned (R e.0 from) ∙ ap not h

    pub between_middle : (es : List (K × X)) → is_sorted R es ≡ true
        → filter is_between es ≡ drop (count_below R from es) (take (count_up_to R to es) es)
    between_middle [] s = refl
    between_middle (e ∷ es) s =
        let rest = between_middle es (tail e es s) in
        elim (either (is_lt (R e.0 from))) [
          | inl h ↦
              let f = from_here e true h in
              elim (either (is_le (R e.0 to))) [
                | inl k ↦ rw (f, h, k) rest
                | inr k ↦ let n = none_more true to e es s k in rw (n.0, f) ((rw n.1 at rest) ∙ drop-nil _ ∙ sym (drop-nil _))
              ]
          | inr h ↦
              let f = from_here e false h in
              let m = none_more false from e es s h in
              elim (either (is_le (R e.0 to))) [
                | inl k ↦ rw (m.0, f, k) (ap (λ (l : List (K × X)). e ∷ l) (rw m.1 at rest))
                | inr k ↦ let n = none_more true to e es s k in rw (n.0, m.0, f, k) ((rw n.1 at rest) ∙ drop-nil _)
              ]
        ]

    -- they stand after the entries of the lower keys
    pub between_there : (es : List (K × X)) → is_sorted R es ≡ true
        → filter is_between es ≡ drop (count_below R from es) (take (count_below R from es + length (filter is_between es)) es)
    between_there es s =
        let a = count_below R from es in
        let b = count_up_to R to es in
        let middle : filter is_between es ≡ drop a (take b es) = between_middle es s in
        let both = length-filter_both (λ (e : K × X). is_le (R e.0 to)) (λ (e : K × X). not (is_le (R e.0 to))) (λ e. refl) es in
        let within : b ≤ length es = omega (arith, both) in
        let number : length (filter is_between es) ≡ b - a = ap length middle ∙ middle_length a b es within in
        elim (cases_lt b a) [
          | inl h ↦ let same : a ≡ a + length (filter is_between es) = omega (arith, number, h) in
              middle ∙ none_middle a b es (omega (arith, h)) ∙ ap (λ n. drop a (take n es)) same
          | inr h ↦ let same : b ≡ a + length (filter is_between es) = omega (arith, number, h) in
              middle ∙ ap (λ n. drop a (take n es)) same
        ]
