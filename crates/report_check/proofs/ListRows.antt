-- Lists of rows, and an item that is put into one.
use Rattle.std.proofs.Common.{◌≡◌, ◌≢◌, ℕ, zero, suc, ◌<◌, ◌⊎◌, inl, inr, List, [], ◌∷◌, length, map, Some, refl, sym, ap, ◌∙◌, arith}
use Rattle.std.specs.Prelude.{slice_get, slice_set}
use Rattle.std.proofs.lemmas.Option.{same_Some}

-- rows that are as long as others
pub same_rows : {A B : Type 0} (xs : List (List A)) (ys : List (List B)) (u : ℕ) (y : List B) → map length xs ≡ map length ys
    → slice_get ys u ≡ Some y → (x : List A) × (slice_get xs u ≡ Some x) × (length x ≡ length y)
same_rows [] [] u y same there = absurd (cc)
same_rows [] (z ∷ ys) u y same there = absurd (cc)
same_rows (x ∷ xs) [] u y same there = absurd (cc)
same_rows (x ∷ xs) (z ∷ ys) zero y same there =
    let one : length x ≡ length z = cc in
    let two : z ≡ y = same_Some z y there in
    (x, refl, one ∙ ap length two)
same_rows (x ∷ xs) (z ∷ ys) (suc u) y same there =
    let rest : map length xs ≡ map length ys = cc in
    same_rows xs ys u y rest there

pub item_there : {A : Type 0} (xs : List A) (i : ℕ) → i < length xs → (x : A) × (slice_get xs i ≡ Some x)
item_there [] i inside = absurd (omega arith)
item_there (x ∷ xs) zero inside = (x, refl)
item_there (x ∷ xs) (suc i) inside = item_there xs i (omega arith)

-- what stands in a list in which one item was put
pub set_cases : {A : Type 0} (xs : List A) (i : ℕ) (x : A) (j : ℕ) (y : A) → slice_get (slice_set xs i x) j ≡ Some y
    → ((j ≡ i) × (y ≡ x)) ⊎ ((j ≢ i) × (slice_get xs j ≡ Some y))
set_cases [] i x j y there = absurd (cc)
set_cases (z ∷ zs) zero x zero y there = inl (refl, sym (same_Some x y there))
set_cases (z ∷ zs) zero x (suc j) y there = inr ((λ e. absurd (omega arith)), there)
set_cases (z ∷ zs) (suc i) x zero y there = inr ((λ e. absurd (omega arith)), there)
set_cases (z ∷ zs) (suc i) x (suc j) y there = by (set_cases zs i x j y there)
  where
    by : ((j ≡ i) × (y ≡ x)) ⊎ ((j ≢ i) × (slice_get zs j ≡ Some y))
        → ((suc j ≡ suc i) × (y ≡ x)) ⊎ ((suc j ≢ suc i) × (slice_get zs j ≡ Some y))
    by (inl same) = inl (ap (λ n. suc n) same.0, same.1)
    by (inr other) = inr ((λ e. other.0 (omega arith)), other.1)

pub long_rows : {A : Type 0} (xs : List (List A)) (i : ℕ) (x y : List A) → slice_get xs i ≡ Some y → length x ≡ length y
    → map length (slice_set xs i x) ≡ map length xs
long_rows [] i x y there long = refl
long_rows (z ∷ zs) zero x y there long =
    let same : z ≡ y = same_Some z y there in
    let one : length x ≡ length z = long ∙ ap length (sym same) in
    ap (λ n. n ∷ map length zs) one
long_rows (z ∷ zs) (suc i) x y there long = ap (λ ns. length z ∷ ns) (long_rows zs i x y there long)
