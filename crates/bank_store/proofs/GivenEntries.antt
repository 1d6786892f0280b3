-- What holds of the entries of shifts and of puts holds of all receipts that a caller was given.
use Rattle.std.proofs.Common.{◌≡◌, ℕ, ◌+◌, ◌-◌, ◌<◌, Bool, true, false, List, [], ◌∷◌, ◌++◌, map, sym, subst, arith, inr}
use Rattle.std.specs.Prelude.{All, Option, Some, None, option_to_list}
use Rattle.std.specs.List.{range_with_len}
use Rattle.std.proofs.Math.Nat.{mod-lt}
use Rattle.std.proofs.lemmas.List.Elements.{All-nil, All-cons, All-append, All-head, All-tail}
use Rattle.mont_base.specs.declared.operation.Op.{Op}
use Rattle.mont_base.specs.declared.operation.Receipt.{Receipt}
use Rattle.heap.specs.HeapShown.{HeapShown, CallerShown}
use Rattle.shard_map.specs.MovedNumbers.{of_high, of_low}
use Rattle.store.specs.Shifting.{goes_up}
use Rattle.bank_job.specs.declared.shifts.Shift.{Shift}
use Rattle.bank_job.specs.Bank.{opening_put}
use Rattle.bank_job.specs.Shifts.{first_shifts, shift_of_caller, IsBetweenUnits}
use Rattle.bank_job.proofs.Accounts.{units_differ}
use Rattle.bank_store.specs.Ends.{End, HasGone, HoldsOfEach, all_given, receipts_given}
use Rattle.bank_store.specs.OpenedAccounts.{PutEnds, PutsEnd, puts_given}
use Rattle.bank_store.proofs.NumberHistories.{PutsNumber}

-- ---- the shifts of a caller
pub all_mapped : {A B : Type 0} (P : B → Type 0) (f : A → B) → ((a : A) → P (f a)) → (xs : List A) → All P (map f xs)
all_mapped P f each [] = All-nil P
all_mapped P f each (x ∷ xs) = All-cons P (f x) (map f xs) (each x) (all_mapped P f each xs)

abbrev pub IsSmall : Shift → Type 0
IsSmall s = s.amount < 100

pub small_shifts : (number caller count : ℕ) → All IsSmall (first_shifts number caller count)
unfolding first_shifts shift_of_caller
small_shifts number caller count =
    all_mapped IsSmall (shift_of_caller number caller) (λ place. mod-lt _ (omega arith)) (range_with_len 0 count)

-- each goes from one unit to another
pub shifts_between : (number caller count : ℕ) → All IsBetweenUnits (first_shifts number caller count)
unfolding first_shifts shift_of_caller
shifts_between number caller count =
    all_mapped IsBetweenUnits (shift_of_caller number caller)
    (λ place. units_differ _ _ (mod-lt _ (omega arith)) (mod-lt _ (omega arith))) (range_with_len 0 count)

-- ---- both receipts of a pair
pub both_ways : (P : Receipt → Type 0) (up : Bool) (pair : Receipt × Receipt) → P pair.0 → P pair.1
    → P (of_low up pair) × P (of_high up pair)
both_ways P true pair p q = (p, q)
both_ways P false pair p q = (q, p)

module _ (Ends : Shift → End → List Receipt → List Receipt → Type 0) (P : Receipt → Type 0) (Fits : Shift → Type 0)
    (gone : (s : Shift) (pair : Receipt × Receipt) (before behind : List Receipt) → Fits s → Ends s (Some pair) before behind
    → P pair.0 × P pair.1) where
  end_holds : (s : Shift) (e : End) (before behind : List Receipt) → Fits s → Ends s e before behind → All P (receipts_given e)
  end_holds s None before behind fits ends = All-nil P
  end_holds s (Some pair) before behind fits ends =
      let k = gone s pair before behind fits ends in
      let b = both_ways P (goes_up pair) pair k.0 k.1 in
      All-cons P (of_low (goes_up pair) pair) (of_high (goes_up pair) pair ∷ []) b.0
      (All-cons P (of_high (goes_up pair) pair) [] b.1 (All-nil P))

  pub given_hold : (earlier : List Receipt) (shifts : List Shift) (ends : List End) → All Fits shifts
      → HoldsOfEach Ends earlier shifts ends → All P (all_given ends)
  given_hold earlier [] [] fits holds = All-nil P
  given_hold earlier (s ∷ ss) (e ∷ es) fits holds =
      All-append P (receipts_given e) (all_given es)
      (end_holds s e earlier (all_given es) (All-head Fits s ss fits) holds.0)
      (given_hold (earlier ++ receipts_given e) ss es (All-tail Fits s ss fits) holds.1)
  given_hold earlier [] (e ∷ es) fits holds = absurd holds
  given_hold earlier (s ∷ ss) [] fits holds = absurd holds

-- the numbers that a shift puts are little more than those that were there
pub gone_puts : (s : Shift) (pair : Receipt × Receipt) → IsSmall s → HasGone s pair → PutsNumber pair.0.entry × PutsNumber pair.1.entry
gone_puts s pair small g =
    let m = g.moved in (
      record {
        key = s.from;
        number = m.have - s.amount;
        put = m.less;
        small = inr (m.have, m.out_of, m.short, omega arith);
      },
      record {
        key = s.to;
        number = m.had + s.amount;
        put = m.more;
        small = inr (m.had, m.into_what, omega (arith, m.fits), omega (arith, small));
      },
    )

-- ---- the opening
module _ (heap : HeapShown) (q r : CallerShown) (P : Op → Type 0) where
  put_given_holds : (o : Op) (e : Option Receipt) → P o → PutEnds heap q r o e → All (λ (x : Receipt). P x.entry.op) (option_to_list e)
  put_given_holds o None p ends = All-nil (λ (x : Receipt). P x.entry.op)
  put_given_holds o (Some x) p ends =
      All-cons (λ (y : Receipt). P y.entry.op) x [] (subst P (sym ends) p) (All-nil (λ (y : Receipt). P y.entry.op))

  pub puts_hold : (ops : List Op) (ends : List (Option Receipt)) → All P ops → PutsEnd heap q r ops ends
      → All (λ (x : Receipt). P x.entry.op) (puts_given ends)
  puts_hold [] [] all k = All-nil (λ (x : Receipt). P x.entry.op)
  puts_hold (o ∷ os) (e ∷ es) all k =
      All-append (λ (x : Receipt). P x.entry.op) (option_to_list e) (puts_given es)
      (put_given_holds o e (All-head P o os all) k.0) (puts_hold os es (All-tail P o os all) k.1)
  puts_hold [] (e ∷ es) all k = absurd k
  puts_hold (o ∷ os) [] all k = absurd k

-- which puts these are
pub record IsOpeningPut (o : Op) : Type 0 where
  pub number : ℕ
  pub low : number < 8
  pub is : o ≡ opening_put number
