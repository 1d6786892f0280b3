-- Two sorts that keep ties put records by rising identity and version.
use Rattle.std.proofs.Common.{◌≡◌, ℕ, suc, ◌+◌, ◌<◌, ◌≤◌, List, [], ◌∷◌, length, get_or, add-one, sym, refl, ap, ◌∙◌, subst, arith, inl, inr, ◌⊎◌}
use Rattle.std.specs.Prelude.{◌≢◌, ◌==◌, All, AllPairs, if◌then◌else◌}
use Rattle.std.specs.List.{Contains, sum_by}
use Rattle.std.specs.List.Sorted.{IsPermutation, IsSortedByKey, IsStableByKey}
use Rattle.std.specs.Ordering.{nat_cmp}
use Rattle.std.proofs.lemmas.Bool.{cases_lt}
use Rattle.std.proofs.lemmas.List.Elements.{All-contains, All-cons, Contains-get_or}
use Rattle.std.proofs.lemmas.List.Kept.{AllPairs-cons}
use Rattle.std.proofs.lemmas.List.Sorted.{IsNonDecreasingBy-from_sort, ties_still_rise, Contains-permutation, IsPermutation-sym, sum_by-IsPermutation}
use Rattle.std.proofs.lemmas.List.Sums.{sum_by-cons}
use Rattle.mont_base.specs.declared.record.Held.{Held}
use Rattle.mont_laws.specs.Records.{AreApart}
use Rattle.mont_laws.specs.Retiring.{IsBelow}
use Rattle.mont_laws.proofs.Apart.{same_version}
use Rattle.mont_laws.proofs.Members.{no_element, first_element, later_element, element_cases, pairs_head, pairs_tail, all_elements}
use Rattle.core_steps.specs.Opened.{by_version}
use Rattle.core_steps.proofs.VersionOrder.{versions_rise, versions_same}
use Rattle.slots.specs.Books.{times, slots_in}
use Rattle.slots.proofs.Times.{times_cons, OtherSlots, apart_slots}
use Rattle.slots.proofs.Found.{once_times, slots_apart}

-- ---- the order
not_both_below : (a b : Held) → IsBelow a b → IsBelow b a → ⊥
not_both_below a b (inl l) (inl m) = absurd (omega arith)
not_both_below a b (inl l) (inr m) = let e = m.0 in absurd (omega arith)
not_both_below a b (inr l) (inl m) = let e = l.0 in absurd (omega arith)
not_both_below a b (inr l) (inr m) = let e = l.1 in let f = m.1 in absurd (omega arith)

below_on : (a b c : Held) → IsBelow a b → IsBelow b c → IsBelow a c
below_on a b c (inl l) (inl m) = inl (omega arith)
below_on a b c (inl l) (inr m) = let e = m.0 in inl (omega arith)
below_on a b c (inr l) (inl m) = let e = l.0 in inl (omega arith)
below_on a b c (inr l) (inr m) =
    let e = l.0 in let f = m.0 in let g = l.1 in let h = m.1 in inr (omega arith, omega arith)

-- two lists in this order with the same records are one
pub one_order : (xs ys : List Held) → AllPairs IsBelow xs → AllPairs IsBelow ys → ((r : Held) → Contains xs r → Contains ys r)
    → ((r : Held) → Contains ys r → Contains xs r) → xs ≡ ys
one_order [] [] h g to back = refl
one_order [] (y ∷ ys) h g to back = absurd (no_element y (back y (first_element y ys)))
one_order (x ∷ xs) [] h g to back = absurd (no_element x (to x (first_element x xs)))
one_order (x ∷ xs) (y ∷ ys) h g to back =
    let low = pairs_head IsBelow x xs h in
    let high = pairs_head IsBelow y ys g in
    let same : x ≡ y = elim (element_cases y ys x (to x (first_element x xs))) [
      | inl e ↦ e
      | inr k ↦ elim (element_cases x xs y (back y (first_element y ys))) [
        | inl e ↦ sym e
        | inr j ↦ absurd (not_both_below x y (All-contains (IsBelow x) xs y low j) (All-contains (IsBelow y) ys x high k))
      ]
    ] in
    λ i. same i ∷ one_order xs ys (pairs_tail IsBelow x xs h) (pairs_tail IsBelow y ys g)
    (λ r c. elim (element_cases y ys r (to r (later_element x xs r c))) [
      | inl e ↦ let b : IsBelow x r = All-contains (IsBelow x) xs r low c in
          absurd (not_both_below x x (subst (IsBelow x) (e ∙ sym same) b) (subst (IsBelow x) (e ∙ sym same) b))
      | inr k ↦ k
    ])
    (λ r c. elim (element_cases x xs r (back r (later_element y ys r c))) [
      | inl e ↦ let b : IsBelow y r = All-contains (IsBelow y) ys r high c in
          absurd (not_both_below y y (subst (IsBelow y) (e ∙ same) b) (subst (IsBelow y) (e ∙ same) b))
      | inr k ↦ k
    ]) i

-- ---- neighbours in order
abbrev Neighbours : List Held → Type 0
Neighbours xs = (k : ℕ) (d : Held) → suc k < length xs → IsBelow (get_or xs k d) (get_or xs (suc k) d)

all_below : (x : Held) (xs : List Held) → Neighbours (x ∷ xs) → AllPairs IsBelow xs → All (IsBelow x) xs
all_below x [] near rising = λ k d lt. absurd (omega arith)
all_below x (y ∷ ys) near rising =
    let first : IsBelow x y = near 0 x (omega arith) in
    All-cons (IsBelow x) y ys first (all_elements (IsBelow x) ys (λ z c.
    below_on x y z first (All-contains (IsBelow y) ys z (pairs_head IsBelow y ys rising) c)))

pairs_below : (xs : List Held) → Neighbours xs → AllPairs IsBelow xs
pairs_below [] near = λ i j d lt within. absurd (omega arith)
pairs_below (x ∷ xs) near =
    let rest = pairs_below xs (λ k d lt. near (suc k) d (omega arith)) in
    AllPairs-cons IsBelow x xs (all_below x xs near rest) rest

-- ---- slots under a change of order
slot_sum : (x : ℕ) (rs : List Held) → times x (slots_in rs) ≡ sum_by (λ (r : Held). if r.slot == x then 1 else 0) rs
slot_sum x [] = refl
slot_sum x (r ∷ rs) =
    times_cons x r.slot (slots_in rs) ∙ ap (λ (n : ℕ). (if r.slot == x then 1 else 0) + n) (slot_sum x rs)
    ∙ sym (sum_by-cons (λ (q : Held). if q.slot == x then 1 else 0) r rs)

abbrev pub version_in_label : Held → ℕ
version_in_label r = r.label.version

abbrev pub identity_in_label : Held → ℕ
identity_in_label r = r.label.identity

-- by version, and then by identity, where ties stay as they were
pub by_two_sorts : (rs ys xs : List Held) → AreApart rs → IsPermutation rs ys → IsPermutation ys xs
    → IsSortedByKey version_in_label nat_cmp ys → IsSortedByKey identity_in_label nat_cmp xs
    → IsStableByKey identity_in_label nat_cmp ys xs → xs ≡ by_version rs
by_two_sorts rs ys xs apart first second versions identities stable =
    one_order xs (by_version rs) (pairs_below xs (λ k d lt.
    subst (λ (n : ℕ). IsBelow (get_or xs k d) (get_or xs n d)) (add-one k) (near k d (omega arith)))) (versions_rise rs)
    (λ r c. (versions_same rs apart.versions r).0 (back r c))
    (λ r c. there r ((versions_same rs apart.versions r).1 c))
  where
    there : (r : Held) → Contains rs r → Contains xs r
    there r c = Contains-permutation ys xs r second (Contains-permutation rs ys r first c)

    back : (r : Held) → Contains xs r → Contains rs r
    back r c = Contains-permutation ys rs r (IsPermutation-sym rs ys first)
        (Contains-permutation xs ys r (IsPermutation-sym ys xs second) c)

    moved : AllPairs OtherSlots xs
    moved = apart_slots xs (λ x.
        let one = sum_by-IsPermutation (λ (r : Held). if r.slot == x then 1 else 0) rs ys first in
        let two = sum_by-IsPermutation (λ (r : Held). if r.slot == x then 1 else 0) ys xs second in
        let a = slot_sum x rs in
        let b = slot_sum x xs in
        let most = once_times x (slots_in rs) (slots_apart rs apart.slots) in
        omega arith)

    near : (k : ℕ) (d : Held) → k + 1 < length xs → IsBelow (get_or xs k d) (get_or xs (k + 1) d)
    near k d lt = by (cases_lt (get_or xs k d).label.identity (get_or xs (k + 1) d).label.identity)
      where
        a : Contains rs (get_or xs k d)
        a = back (get_or xs k d) (Contains-get_or xs k d (omega arith))

        b : Contains rs (get_or xs (k + 1) d)
        b = back (get_or xs (k + 1) d) (Contains-get_or xs (k + 1) d lt)

        by : ((get_or xs k d).label.identity < (get_or xs (k + 1) d).label.identity)
            ⊎ ((get_or xs (k + 1) d).label.identity ≤ (get_or xs k d).label.identity)
            → IsBelow (get_or xs k d) (get_or xs (k + 1) d)
        by (inl l) = inl l
        by (inr l) =
            let up : (get_or xs k d).label.identity ≤ (get_or xs (k + 1) d).label.identity =
            IsNonDecreasingBy-from_sort identity_in_label xs identities k (k + 1) d (omega arith) lt in
            let same : (get_or xs k d).label.identity ≡ (get_or xs (k + 1) d).label.identity = omega arith in
            let rises : (get_or xs k d).label.version ≤ (get_or xs (k + 1) d).label.version =
            ties_still_rise version_in_label identity_in_label ys xs versions stable k d lt same in
            let other : (get_or xs k d).label.version ≢ (get_or xs (k + 1) d).label.version = λ e.
            moved k (k + 1) d (omega arith) lt
            (ap (λ (r : Held). r.slot) (same_version rs apart (get_or xs k d) (get_or xs (k + 1) d) a b same e)) in
            inr (same, omega arith)
