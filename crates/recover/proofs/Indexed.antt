-- Lists of which one item after the other is changed.
use Rattle.std.proofs.Common.{◌≡◌, ℕ, zero, suc, ◌+◌, ◌<◌, ◌≤◌, List, [], ◌∷◌, length, take, set, get_or, ap, sym, ◌∙◌, subst, refl, arith}
use Rattle.std.specs.Prelude.{slice_get, Some, All}
use Rattle.std.proofs.lemmas.List.{take_all}
use Rattle.std.proofs.lemmas.Option.{same_Some, slice_get_read}
use Rattle.std.proofs.lemmas.List.Elements.{All-nil, All-cons, All-head, All-tail}
use Rattle.core_steps.specs.Places.{EachAt}
use Rattle.heap.specs.HeapShown.{HeapShown}
use Rattle.slots.specs.Books.{RegionShown}
use Rattle.found_regions.specs.FoundRegion.{IsRegionFound}

-- what holds of each item up to a place, and of the one that is put there
all_with_suc : {A : Type 0} (P : A → Type 0) (xs : List A) (i : ℕ) (x : A) → i < length xs → All P (take i xs) → P x
    → All P (take (suc i) (set xs i x))
all_with_suc P [] i x low all p = absurd (omega arith)
all_with_suc P (y ∷ ys) zero x low all p = All-cons P x [] p (All-nil P)
all_with_suc P (y ∷ ys) (suc i) x low all p =
    All-cons P y (take (suc i) (set ys i x)) (All-head P y (take i ys) all)
    (all_with_suc P ys i x (omega arith) (All-tail P y (take i ys) all) p)

pub all_with_next : {A : Type 0} (P : A → Type 0) (xs : List A) (i : ℕ) (x : A) → i < length xs → All P (take i xs) → P x
    → All P (take (i + 1) (set xs i x))
all_with_next P xs i x low all p =
    let more : suc i ≡ i + 1 = omega arith in
    subst (λ (n : ℕ). All P (take n (set xs i x))) more (all_with_suc P xs i x low all p)

-- what holds of each item at its place holds still where one is put that has it
pub each_with : {A : Type 0} (P : ℕ → A → Type 0) (xs : List A) (i : ℕ) (x : A) → EachAt P xs → P i x → EachAt P (set xs i x)
each_with P [] i x each p j z e = each j z e
each_with P (y ∷ ys) zero x each p zero z e = subst (P 0) (same_Some x z e) p
each_with P (y ∷ ys) zero x each p (suc j) z e = each (suc j) z e
each_with P (y ∷ ys) (suc i) x each p zero z e = each zero z e
each_with P (y ∷ ys) (suc i) x each p (suc j) z e = each_with (λ k. P (suc k)) ys i x (λ k w f. each (suc k) w f) p j z e

-- an item that is put back changes nothing
put_back : {A : Type 0} (xs : List A) (i : ℕ) (x : A) → slice_get xs i ≡ Some x → set xs i x ≡ xs
put_back [] i x e = absurd (cc)
put_back (y ∷ ys) zero x e = ap (λ z. z ∷ ys) (sym (same_Some y x e))
put_back (y ∷ ys) (suc i) x e = ap (λ zs. y ∷ zs) (put_back ys i x e)

-- all items are those up to a place that isn't below their number
pub all_taken : {A : Type 0} (P : A → Type 0) (xs : List A) (n : ℕ) → length xs ≤ n → All P (take n xs) → All P xs
all_taken P xs n long all = subst (All P) (take_all n xs long) all

-- ---- the region of a unit among those of all
module _ (heap : HeapShown) (rs : List RegionShown) (u : ℕ) (r : RegionShown) (low : u < length rs) (is : r ≡ get_or rs u r)
    (each : EachAt (IsRegionFound heap) rs) where
  pub at_place : IsRegionFound heap u r
  at_place = each u r (slice_get_read rs (length rs) u r refl low is)

  pub at_got : IsRegionFound heap u (get_or rs u r)
  at_got = subst (IsRegionFound heap u) is at_place

  pub of_its_unit : IsRegionFound heap (get_or rs u r).seat.known.unit (get_or rs u r)
  of_its_unit = subst (λ (n : ℕ). IsRegionFound heap n (get_or rs u r)) (sym at_got.of_unit) at_got

-- ---- what an item is put in for
pub put_same : {A : Type 0} (xs : List A) (i : ℕ) (x y : A) → i < length xs → x ≡ get_or xs i x → y ≡ x → set xs i y ≡ xs
put_same xs i x y low is same =
    ap (set xs i) same ∙ put_back xs i x (slice_get_read xs (length xs) i x refl low is)
