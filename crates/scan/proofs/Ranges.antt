-- Numbers that follow one another.
use Rattle.std.proofs.Common.{◌≡◌, ℕ, zero, suc, ◌+◌, ◌-◌, ◌<◌, ◌≤◌, List, [], ◌∷◌, ◌++◌, sym, ap, ◌∙◌, arith, add-zero}
use Rattle.std.specs.List.{range_with_len}

pub range_append : (a m n : ℕ) → range_with_len a m ++ range_with_len (a + m) n ≡ range_with_len a (m + n)
range_append a zero n = rw (add-zero) (ap (range_with_len a) (omega arith))
range_append a (suc m) n =
    let next : a + suc m ≡ (a + 1) + m = omega arith in
    let count : suc m + n ≡ suc (m + n) = omega arith in
    rw (next, count) (ap (λ (xs : List ℕ). a ∷ xs) (range_append (a + 1) m n))

-- one number more
pub range_more : (first k : ℕ) → first ≤ k → range_with_len first (k + 1 - first) ≡ range_with_len first (k - first) ++ k ∷ []
range_more first k h =
    let m = k - first in
    let count : k + 1 - first ≡ m + 1 = omega arith in
    let last : first + m ≡ k = omega arith in
    ap (range_with_len first) count
    ∙ sym (range_append first m 1)
    ∙ ap (λ (j : ℕ). range_with_len first m ++ j ∷ []) last

-- a number, those before it and those after it
pub range_split : (first k end : ℕ) → first ≤ k → k < end
    → range_with_len first (end - first) ≡ (range_with_len first (k - first) ++ k ∷ []) ++ range_with_len (k + 1) (end - (k + 1))
range_split first k end low high =
    let m = k + 1 - first in
    let n = end - (k + 1) in
    let count : end - first ≡ m + n = omega arith in
    let behind : first + m ≡ k + 1 = omega arith in
    ap (range_with_len first) count
    ∙ sym (range_append first m n)
    ∙ (λ i. range_more first k low i ++ range_with_len (behind i) n)
