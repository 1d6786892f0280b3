-- What outcomes name: the places of a caller's receipts, and the units in which it was cut.
use Rattle.std.proofs.Common.{◌≡◌, ℕ, zero, suc, ◌+◌, Bool, false, cond, List, [], ◌∷◌, length, map, refl, sym, ap, ◌∙◌, arith}
use Rattle.std.specs.Prelude.{◌&&◌, ◌==◌, slice_get, Some, sum_by, count_by}
use Rattle.std.specs.List.{Contains}
use Rattle.std.proofs.lemmas.List.Sums.{sum_by-cons}
use Rattle.mont_base.specs.declared.operation.Receipt.{Receipt}
use Rattle.mont_base.specs.Seen.{names_place}
use Rattle.job_text.specs.declared.outcome.Outcome.{Outcome}
use Rattle.job_text.specs.declared.outcome.Outcome.TheVariants.{At, Synced, Ticked, Stuck, ClockEnd, Full, CountEnd, Halted, CutIn, Cut}
use Rattle.job_text.specs.Outcomes.{names_entry}
use Rattle.job_worker.specs.Ending.{places_named, place_answered, units_cut}

-- ---- counting
counted : {A : Type 0} (p : A → Bool) (x : A) (xs : List A) → count_by p (x ∷ xs) ≡ cond (p x) 1 0 + count_by p xs
counted p x xs = sum_by-cons (λ y. cond (p y) 1 0) x xs

skipped : {A : Type 0} (p : A → Bool) (x : A) (xs : List A) → p x ≡ false → count_by p (x ∷ xs) ≡ count_by p xs
skipped p x xs out =
    let one : count_by p (x ∷ xs) ≡ 0 + count_by p xs =
    counted p x xs ∙ ap (λ (b : Bool). cond b 1 0 + count_by p xs) out in
    omega (arith, one)

abbrev is_place : ℕ → ℕ → (ℕ × ℕ) → Bool
is_place unit place p = (p.0 == unit) && (p.1 == place)

-- ---- entries
module _ (unit place : ℕ) where
  by_outcomes : (xs : List Outcome)
      → count_by (names_entry unit place) xs ≡ count_by (is_place unit place) (places_named xs)
  by_outcomes [] = refl
  by_outcomes (At u n ∷ xs) =
      counted (names_entry unit place) (At u n) xs
      ∙ ap (λ (k : ℕ). cond ((u == unit) && (n == place)) 1 0 + k) (by_outcomes xs)
      ∙ sym (counted (is_place unit place) (u, n) (places_named xs))
  by_outcomes (Synced epoch ∷ xs) = skipped (names_entry unit place) (Synced epoch) xs refl ∙ by_outcomes xs
  by_outcomes (Ticked epoch ∷ xs) = skipped (names_entry unit place) (Ticked epoch) xs refl ∙ by_outcomes xs
  by_outcomes (Stuck u epoch ∷ xs) = skipped (names_entry unit place) (Stuck u epoch) xs refl ∙ by_outcomes xs
  by_outcomes (ClockEnd ∷ xs) = skipped (names_entry unit place) ClockEnd xs refl ∙ by_outcomes xs
  by_outcomes (Full need free clock ∷ xs) =
      skipped (names_entry unit place) (Full need free clock) xs refl ∙ by_outcomes xs
  by_outcomes (CountEnd which ∷ xs) = skipped (names_entry unit place) (CountEnd which) xs refl ∙ by_outcomes xs
  by_outcomes (Halted u by ∷ xs) = skipped (names_entry unit place) (Halted u by) xs refl ∙ by_outcomes xs
  by_outcomes (CutIn u ∷ xs) = skipped (names_entry unit place) (CutIn u) xs refl ∙ by_outcomes xs
  by_outcomes (Cut ∷ xs) = skipped (names_entry unit place) Cut xs refl ∙ by_outcomes xs

  by_receipts : (rs : List Receipt)
      → count_by (names_place unit place) rs ≡ count_by (is_place unit place) (map place_answered rs)
  by_receipts [] = refl
  by_receipts (r ∷ rs) =
      counted (names_place unit place) r rs
      ∙ ap (λ (k : ℕ). cond ((r.unit == unit) && (r.place == place)) 1 0 + k) (by_receipts rs)
      ∙ sym (counted (is_place unit place) (r.unit, r.place) (map place_answered rs))

  -- a caller's outcomes name an entry as often as its receipts
  pub named_alike : (xs : List Outcome) (rs : List Receipt) → places_named xs ≡ map place_answered rs
      → count_by (names_entry unit place) xs ≡ count_by (names_place unit place) rs
  named_alike xs rs e =
      by_outcomes xs ∙ ap (λ (ps : List (ℕ × ℕ)). count_by (is_place unit place) ps) e ∙ sym (by_receipts rs)

-- sums over lists of which the items at each place count alike
pub sums_alike : {A B : Type 0} (f : A → ℕ) (g : B → ℕ) (xs : List A) (ys : List B) → length xs ≡ length ys
    → ((i : ℕ) (x : A) (y : B) → slice_get xs i ≡ Some x → slice_get ys i ≡ Some y → f x ≡ g y)
    → sum_by f xs ≡ sum_by g ys
sums_alike f g [] [] e same = refl
sums_alike f g [] (y ∷ ys) e same = absurd (omega arith)
sums_alike f g (x ∷ xs) [] e same = absurd (omega arith)
sums_alike f g (x ∷ xs) (y ∷ ys) e same =
    sum_by-cons f x xs
    ∙ (λ k. same 0 x y refl refl k + sums_alike f g xs ys (omega arith) (λ i a b h m. same (suc i) a b h m) k)
    ∙ sym (sum_by-cons g y ys)

-- ---- cuts
later : {A : Type 0} (x y : A) (xs : List A) → Contains xs y → Contains (x ∷ xs) y
later x y xs (k, below, is) = (suc k, omega (arith, below), is)

-- an outcome names a unit in which the caller was cut
pub cut_named : (xs : List Outcome) (unit : ℕ) → Contains (units_cut xs) unit → Contains xs (CutIn unit)
cut_named [] unit (k, below, is) = absurd (omega (arith, below))
cut_named (CutIn u ∷ xs) unit (zero, below, is) = (0, omega arith, ap CutIn is)
cut_named (CutIn u ∷ xs) unit (suc k, below, is) =
    later (CutIn u) (CutIn unit) xs (cut_named xs unit (k, omega (arith, below), is))
cut_named (At u n ∷ xs) unit c = later (At u n) (CutIn unit) xs (cut_named xs unit c)
cut_named (Synced epoch ∷ xs) unit c = later (Synced epoch) (CutIn unit) xs (cut_named xs unit c)
cut_named (Ticked epoch ∷ xs) unit c = later (Ticked epoch) (CutIn unit) xs (cut_named xs unit c)
cut_named (Stuck u epoch ∷ xs) unit c = later (Stuck u epoch) (CutIn unit) xs (cut_named xs unit c)
cut_named (ClockEnd ∷ xs) unit c = later ClockEnd (CutIn unit) xs (cut_named xs unit c)
cut_named (Full need free clock ∷ xs) unit c = later (Full need free clock) (CutIn unit) xs (cut_named xs unit c)
cut_named (CountEnd which ∷ xs) unit c = later (CountEnd which) (CutIn unit) xs (cut_named xs unit c)
cut_named (Halted u by ∷ xs) unit c = later (Halted u by) (CutIn unit) xs (cut_named xs unit c)
cut_named (Cut ∷ xs) unit c = later Cut (CutIn unit) xs (cut_named xs unit c)
