-- A unit's list among the lists of all units, one after the other.
use Rattle.std.proofs.Common.{◌≡◌, ℕ, zero, suc, ◌+◌, List, [], ◌∷◌, ◌++◌, length, take, refl, sym, ap, ◌∙◌, arith, length-append}
use Rattle.std.specs.Prelude.{slice_get, Some}
use Rattle.heap_rule.specs.Views.{joined, list_at}

behind : (l m : List ℕ) (k s : ℕ) → slice_get m k ≡ Some s → slice_get (l ++ m) (length l + k) ≡ Some s
behind [] m k s e = let z : zero + k ≡ k = omega arith in ap (slice_get m) z ∙ e
behind (x ∷ xs) m k s e =
    let z : suc (length xs) + k ≡ suc (length xs + k) = omega arith in ap (slice_get (x ∷ (xs ++ m))) z ∙ behind xs m k s e

within : (l m : List ℕ) (k s : ℕ) → slice_get l k ≡ Some s → slice_get (l ++ m) k ≡ Some s
within [] m k s e = absurd (cc)
within (x ∷ xs) m zero s e = e
within (x ∷ xs) m (suc k) s e = within xs m k s e

-- a slot of a unit's list, in the place that it has among all listed ones
pub joined_at : (ls : List (List ℕ)) (u k s : ℕ) → slice_get (list_at ls u) k ≡ Some s
    → slice_get (joined ls) (length (joined (take u ls)) + k) ≡ Some s
joined_at [] u k s e = absurd (cc)
joined_at (l ∷ ls) zero k s e = let z : zero + k ≡ k = omega arith in ap (slice_get (l ++ joined ls)) z ∙ within l (joined ls) k s e
joined_at (l ∷ ls) (suc u) k s e =
    let z : length (l ++ joined (take u ls)) + k ≡ length l + (length (joined (take u ls)) + k) =
    omega (arith, length-append l (joined (take u ls))) in
    ap (slice_get (l ++ joined ls)) z ∙ behind l (joined ls) (length (joined (take u ls)) + k) s (joined_at ls u k s e)

none_taken : (n : ℕ) → length (joined (take n [])) ≡ 0
none_taken zero = refl
none_taken (suc n) = refl

-- the lists before the next unit's
pub joined_next : (ls : List (List ℕ)) (u : ℕ)
    → length (joined (take (u + 1) ls)) ≡ length (joined (take u ls)) + length (list_at ls u)
joined_next [] u = none_taken (u + 1) ∙ sym (ap (λ (n : ℕ). n + 0) (none_taken u))
joined_next (l ∷ ls) zero = omega (arith, length-append l [])
joined_next (l ∷ ls) (suc u) =
    let i : suc u + 1 ≡ suc (u + 1) = omega arith in
    let more = joined_next ls u in
    ap (λ (n : ℕ). length (joined (take n (l ∷ ls)))) i
    ∙ omega (arith, length-append l (joined (take (u + 1) ls)), length-append l (joined (take u ls)))
