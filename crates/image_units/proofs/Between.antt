-- What stands between two places of a list that rises by a key.
use Rattle.std.proofs.Common.{◌≡◌, ℕ, suc, ◌+◌, ◌-◌, ◌<◌, ◌≤◌, Bool, true, false, ltb, List, [], ◌∷◌, ◌++◌, length, get_or, take, drop, refl, sym, ap, ◌∙◌, subst, arith, ⊎_elim, length-drop, length-take, append-nil}
use Rattle.std.specs.Prelude.{AllPairs, filter}
use Rattle.std.specs.List.{slice_range}
use Rattle.std.specs.List.Sorted.{IsNonDecreasingBy}
use Rattle.std.proofs.lemmas.Bool.{cases_lt, ltb-true, ltb-false}
use Rattle.std.proofs.lemmas.Bool.Decides.{nat_tests}
use Rattle.std.proofs.lemmas.List.{get_or-take, get_or-drop, take-append-drop}
use Rattle.std.proofs.lemmas.List.Elements.{filter-append}
use Rattle.std.proofs.lemmas.List.Folds.{drop_split}
use Rattle.image_units.specs.UnitSlots.{IsPlaceOf, is_between}

module _ {A : Type 0} (p : A → Bool) where
  -- nothing is kept of what fails, and all of what passes
  pub none_kept : (xs : List A) → ((k : ℕ) (d : A) → k < length xs → p (get_or xs k d) ≡ false) → filter p xs ≡ []
  none_kept [] h = refl
  none_kept (x ∷ xs) h = rw (h 0 x (omega arith)) (none_kept xs (λ k d lt. h (suc k) d (omega arith)))

  pub all_kept : (xs : List A) → ((k : ℕ) (d : A) → k < length xs → p (get_or xs k d) ≡ true) → filter p xs ≡ xs
  all_kept [] h = refl
  all_kept (x ∷ xs) h =
      rw (h 0 x (omega arith)) (ap (λ (ys : List A). x ∷ ys) (all_kept xs (λ k d lt. h (suc k) d (omega arith))))

pub inside : (first end n : ℕ) → ltb n first ≡ false → ltb n end ≡ true → is_between first end n ≡ true
inside first end n low high = grind (arith, nat_tests)

under : (first end n : ℕ) → ltb n first ≡ true → is_between first end n ≡ false
under first end n low = grind (arith, nat_tests)

over : (first end n : ℕ) → ltb n end ≡ false → is_between first end n ≡ false
over first end n high = grind (arith, nat_tests)

module _ {A : Type 0} (key : A → ℕ) (xs : List A) where
  pub not_falling : AllPairs (λ (x y : A). key x < key y) xs → IsNonDecreasingBy key xs
  not_falling rising i j d order within = ⊎_elim
      (λ (l : i < j). let lower = rising i j d l within in omega arith)
      (λ (l : j ≤ i). let same : i ≡ j = omega arith in subst (λ (n : ℕ). key (get_or xs i d) ≤ key (get_or xs n d)) same (omega arith))
      (cases_lt i j)

  module _ (first end start stop : ℕ) (ends : first ≤ end) (begins : IsPlaceOf key xs first start) (ended : IsPlaceOf key xs end stop) where
    -- the place of a greater bound is no lower
    pub places_rise : start ≤ stop
    places_rise = ⊎_elim
        (λ (l : stop < start). go xs (omega (arith, begins.inside)) (λ d. begins.parts.0 stop d (omega arith) l)
        (λ d. ended.parts.1 stop d (omega arith) (omega (arith, begins.inside))))
        (λ (l : start ≤ stop). l)
        (cases_lt stop start)
      where
        go : (ys : List A) → stop < length ys → ((d : A) → ltb (key (get_or xs stop d)) first ≡ true)
            → ((d : A) → ltb (key (get_or xs stop d)) end ≡ false) → start ≤ stop
        go [] lt low high = absurd (omega arith)
        go (y ∷ ys) lt low high =
            absurd (omega (arith, ltb-true _ _ (low y), ltb-false _ _ (high y)))

    pub part_kept : slice_range xs start stop ≡ filter (λ (x : A). is_between first end (key x)) xs
    part_kept =
        let p : A → Bool = λ x. is_between first end (key x) in
        let part = slice_range xs start stop in
        let parts : xs ≡ take start xs ++ (part ++ drop stop xs) =
        sym (take-append-drop start xs) ∙ ap (λ (ys : List A). take start xs ++ ys) (drop_split xs start stop places_rise) in
        let front : filter p (take start xs) ≡ [] = none_kept p (take start xs)
        (λ k d lt.
        let low : k < start = omega (arith, length-take start xs) in
        ap p (get_or-take start xs k d low) ∙ under first end (key (get_or xs k d)) (begins.parts.0 k d (omega arith) low)) in
        let mine : filter p part ≡ part = all_kept p part
        (λ k d lt.
        let low : k < stop - start = omega (arith, length-take (stop - start) (drop start xs)) in
        let high : start + k < stop = omega arith in
        ap p (get_or-take (stop - start) (drop start xs) k d low ∙ get_or-drop start xs k d)
        ∙ inside first end (key (get_or xs (start + k) d)) (begins.parts.1 (start + k) d (omega arith) (omega (arith, ended.inside)))
        (ended.parts.0 (start + k) d (omega arith) high)) in
        let back : filter p (drop stop xs) ≡ [] = none_kept p (drop stop xs)
        (λ k d lt.
        let high : stop + k < length xs = omega (arith, length-drop stop xs) in
        ap p (get_or-drop stop xs k d)
        ∙ over first end (key (get_or xs (stop + k) d)) (ended.parts.1 (stop + k) d (omega arith) high)) in
        sym (ap (filter p) parts
        ∙ filter-append p (take start xs) (part ++ drop stop xs)
        ∙ (λ i. front i ++ filter p (part ++ drop stop xs))
        ∙ filter-append p part (drop stop xs)
        ∙ (λ i. mine i ++ back i)
        ∙ append-nil part)
