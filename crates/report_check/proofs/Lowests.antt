-- The lowest place is one.
use Rattle.std.proofs.Common.{◌≡◌, ℕ, ◌<◌, ◌≤◌, ⊎_elim, refl, arith, subst, sym}
use Rattle.std.specs.Prelude.{Option, Some, None}
use Rattle.std.proofs.lemmas.Bool.{cases_lt}
use Rattle.report_check.specs.Lowest.{AllHold, IsFirst, IsLowest, IsLowestPair}

pub one_lowest : (Holds : ℕ → Type 0) (m n : ℕ) → IsLowest Holds m → IsLowest Holds n → m ≡ n
one_lowest Holds m n a b = ⊎_elim
    (λ (low : m < n). absurd (a.fails (b.before m low)))
    (λ (high : n ≤ m). ⊎_elim
    (λ (less : n < m). absurd (b.fails (a.before n less)))
    (λ (least : m ≤ n). omega arith)
    (cases_lt n m))
    (cases_lt m n)

module _ (Holds : ℕ → ℕ → Type 0) (i j m n : ℕ) (a : IsLowestPair Holds i j) (b : IsLowestPair Holds m n) where
  same_first : i ≡ m
  same_first = ⊎_elim
      (λ (low : i < m). absurd (a.fails (b.lower i j low)))
      (λ (high : m ≤ i). ⊎_elim
      (λ (less : m < i). absurd (b.fails (a.lower m n less)))
      (λ (least : i ≤ m). omega arith)
      (cases_lt m i))
      (cases_lt i m)

  same_second : j ≡ n
  same_second = ⊎_elim
      (λ (low : j < n).
      absurd (a.fails (subst (λ (k : ℕ). Holds k j) (sym same_first) (b.before j low))))
      (λ (high : n ≤ j). ⊎_elim
      (λ (less : n < j). absurd (b.fails (subst (λ (k : ℕ). Holds k n) same_first (a.before n less))))
      (λ (least : j ≤ n). omega arith)
      (cases_lt n j))
      (cases_lt j n)

  pub one_lowest_pair : (i ≡ m) × (j ≡ n)
  one_lowest_pair = (same_first, same_second)

-- ---- a search along rows
-- a row in which nothing was found holds
pub row_holds : (Holds : ℕ → Type 0) (o : Option ℕ) → IsFirst Holds o → ((n : ℕ) → o ≡ Some n → ⊥) → (n : ℕ) → Holds n
row_holds Holds None all none = all
row_holds Holds (Some n) is none = absurd (none n refl)

-- what is found in a row after rows that hold is the lowest
pub found_in_row : (Holds : ℕ → ℕ → Type 0) (i n : ℕ) (o : Option ℕ) → ((m : ℕ) → m < i → (k : ℕ) → Holds m k)
    → IsFirst (Holds i) o → o ≡ Some n → IsLowestPair Holds i n
found_in_row Holds i n o below is found =
    let lowest : IsLowest (Holds i) n = subst (IsFirst (Holds i)) found is in
    record { lower = λ m k low. below m low k; before = lowest.before; fails = lowest.fails }

-- what holds below a bound, and after it for want of anything there, holds everywhere
pub all_from_below : (Holds : ℕ → ℕ → Type 0) (bound : ℕ) → ((m : ℕ) → m < bound → (n : ℕ) → Holds m n)
    → ((m n : ℕ) → bound ≤ m → Holds m n) → AllHold Holds
all_from_below Holds bound below behind m n = ⊎_elim
    (λ (low : m < bound). below m low n)
    (λ (high : bound ≤ m). behind m n high)
    (cases_lt m bound)
