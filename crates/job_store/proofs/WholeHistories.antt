-- A cut in which all entries are leaves the states that the whole histories lead to.
use Rattle.std.proofs.Common.{◌≡◌, ℕ, zero, suc, ◌≤◌, List, [], ◌∷◌, Bool, true, false, cond, ap, refl, arith}
use Rattle.std.specs.Prelude.{slice_get, nat_le, sum_by, count_by, Some, All}
use Rattle.std.proofs.lemmas.Bool.Decides.{nat_tests}
use Rattle.std.proofs.lemmas.List.Elements.{All-head, All-tail}
use Rattle.std.proofs.lemmas.List.Sums.{sum_by-cons}
use Rattle.mont_base.specs.declared.operation.Entry.{Entry}
use Rattle.mont_base.specs.History.{state_after, cut_at}
use Rattle.mont_base.specs.State.{State}
use Rattle.store_stop.specs.Headline.{cut_states}
use Rattle.job_store.specs.SyncedRun.{states_behind}

module _ (x : ℕ) where
  pub cut_whole : (h : List Entry) → All (λ (e : Entry). e.epoch ≤ x) h → cut_at x h ≡ h
  cut_whole [] all = refl
  cut_whole (e ∷ es) all =
      let first = All-head (λ (d : Entry). d.epoch ≤ x) e es all in
      let t : nat_le e.epoch x ≡ true = grind (arith, nat_tests) in
      rw t (ap (λ (ds : List Entry). e ∷ ds) (cut_whole es (All-tail (λ (d : Entry). d.epoch ≤ x) e es all)))

  pub whole_cut : (base : List State) (hs : List (List Entry))
      → ((unit : ℕ) (h : List Entry) → slice_get hs unit ≡ Some h → cut_at x h ≡ h) → cut_states x base hs ≡ states_behind base hs
  whole_cut [] hs whole = refl
  whole_cut (state ∷ base) [] whole = refl
  whole_cut (state ∷ base) (h ∷ hs) whole =
      λ i. state_after state (whole 0 h refl i) ∷ whole_cut base hs (λ unit g e. whole (suc unit) g e) i

-- ---- what is counted in lists is in one of them
some_sum : {A : Type 0} (f : A → ℕ) (xs : List A) → 1 ≤ sum_by f xs → (i : ℕ) × (x : A) × (slice_get xs i ≡ Some x) × (1 ≤ f x)
some_sum f [] some = absurd (omega (arith, some))
some_sum f (x ∷ xs) some = by (f x) refl (λ more. some_sum f xs more)
  where
    by : (n : ℕ) → f x ≡ n → (1 ≤ sum_by f xs → (i : ℕ) × (y : _) × (slice_get xs i ≡ Some y) × (1 ≤ f y))
        → (i : ℕ) × (y : _) × (slice_get (x ∷ xs) i ≡ Some y) × (1 ≤ f y)
    by (suc n) e behind = (0, x, refl, omega (arith, e))
    by zero e behind =
        let rest = behind (let both = sum_by-cons f x xs in omega (arith, some, e, both)) in
        (suc rest.0, rest.1, rest.2, rest.3)

passes : (b : Bool) → 1 ≤ cond b 1 0 → b ≡ true
passes true some = refl
passes false some = absurd (omega (arith, some))

pub counted : {A : Type 0} (p : A → Bool) (lists : List (List A)) → sum_by (λ xs. count_by p xs) lists ≡ 1
    → (k : ℕ) × (xs : List A) × (slice_get lists k ≡ Some xs)
    × ((i : ℕ) × (x : A) × (slice_get xs i ≡ Some x) × (p x ≡ true))
counted p lists one =
    let list = some_sum (λ xs. count_by p xs) lists (omega (arith, one)) in
    let one = some_sum (λ x. cond (p x) 1 0) list.1 list.3 in
    (list.0, list.1, list.2, (one.0, one.1, one.2, passes (p one.1) one.3))
