-- The histories of the bank's units: puts of numbers alone, and few of them.
use Rattle.std.proofs.Common.{◌≡◌, ℕ, zero, suc, ◌+◌, ◌%◌, ◌<◌, ◌≤◌, Bool, true, false, List, [], ◌∷◌, ◌++◌, length, map, sym, refl, ap, ◌∙◌, subst, arith, inl}
use Rattle.std.specs.Prelude.{slice_get, Option, Some, None, All, sum_by, IsSome}
use Rattle.std.specs.List.{range_with_len}
use Rattle.std.specs.FinMap as finite
use Rattle.std.proofs.lemmas.List.{append-nil, length-map}
use Rattle.std.proofs.lemmas.List.Elements.{All-nil, All-cons, All-append, All-head, All-tail}
use Rattle.std.proofs.lemmas.List.Sums.{sum_by-append, sum_by-cons}
use Rattle.mont_base.specs.declared.constants.TheConstants.{FIRST_CLOCK}
use Rattle.mont_base.specs.declared.operation.Entry.{Entry}
use Rattle.mont_base.specs.declared.operation.Op.{Op}
use Rattle.mont_base.specs.declared.operation.Receipt.{Receipt}
use Rattle.mont_base.specs.History.{IsLegal}
use Rattle.mont_base.specs.Image.{empty_states}
use Rattle.mont_base.specs.Layout.{unit_of_key}
use Rattle.mont_base.specs.State.{MapOf, State, unit_of_op}
use Rattle.plain.specs.declared.contents.Contents.{Contents}
use Rattle.plain.specs.States.{states_of}
use Rattle.heap.specs.HeapShown.{HeapShown, CallerShown}
use Rattle.store_stop.specs.declared.headline.Stopped.{Stopped}
use Rattle.store_stop.specs.Headline.{AreLegal, IsStopped}
use Rattle.unit_totals.proofs.Named.{each_once}
use Rattle.shard_map.specs.MovedNumbers.{of_high, of_low}
use Rattle.store.specs.Shifting.{goes_up}
use Rattle.bank_job.specs.declared.shifts.Shift.{Shift}
use Rattle.bank_job.specs.Bank.{account, bank_layout, first_puts, opening_put}
use Rattle.bank_job.specs.Shifts.{first_shifts, shift_of_caller, IsBetweenUnits}
use Rattle.bank_job.proofs.Accounts.{unit_of_account}
use Rattle.bank_store.specs.BankCallers.{HasShiftedAll, HaveShifted}
use Rattle.bank_store.specs.Ends.{End, HasGone, HoldsOfEach, all_given, receipts_given}
use Rattle.bank_store.specs.MadeShifts.{EndsBetween}
use Rattle.bank_store.specs.OpenedAccounts.{PutsEnd, puts_given}
use Rattle.bank_store.proofs.GivenEntries.{IsOpeningPut, IsSmall, given_hold, gone_puts, puts_hold, shifts_between, small_shifts}
use Rattle.bank_store.proofs.NamedEntries.{history_holds}
use Rattle.bank_store.proofs.NumberHistories.{PutsNumber}
use Rattle.bank_store.proofs.ShiftsMade.{all_weaker}
use Rattle.bank_store.proofs.StoppedBank.{names_once}
use Rattle.bank_store.proofs.UnitEntries.{all_count, if_unit, of_unit, one_of_all, two_few}

-- ---- the opening's puts
pub all_opening : All IsOpeningPut (first_puts 8)
unfolding first_puts
all_opening = opened (range_with_len 0 8) (
    All-cons IsLow 0 (1 ∷ 2 ∷ 3 ∷ 4 ∷ 5 ∷ 6 ∷ 7 ∷ []) (omega arith)
    (All-cons IsLow 1 (2 ∷ 3 ∷ 4 ∷ 5 ∷ 6 ∷ 7 ∷ []) (omega arith)
    (All-cons IsLow 2 (3 ∷ 4 ∷ 5 ∷ 6 ∷ 7 ∷ []) (omega arith)
    (All-cons IsLow 3 (4 ∷ 5 ∷ 6 ∷ 7 ∷ []) (omega arith)
    (All-cons IsLow 4 (5 ∷ 6 ∷ 7 ∷ []) (omega arith)
    (All-cons IsLow 5 (6 ∷ 7 ∷ []) (omega arith)
    (All-cons IsLow 6 (7 ∷ []) (omega arith)
    (All-cons IsLow 7 [] (omega arith) (All-nil IsLow)))))))))
  where
    IsLow : ℕ → Type 0
    IsLow n = n < 8

    opened : (xs : List ℕ) → All IsLow xs → All IsOpeningPut (map opening_put xs)
    opened [] all = All-nil IsOpeningPut
    opened (x ∷ xs) all =
        All-cons IsOpeningPut (opening_put x) (map opening_put xs) (record { number = x; low = All-head IsLow x xs all; is = refl })
        (opened xs (All-tail IsLow x xs all))

pub puts_number : (e : Entry) → IsOpeningPut e.op → PutsNumber e
puts_number e p = record { key = account p.number; number = 1000; put = p.is; small = inl (omega arith) }

-- each is of a unit
pub opening_units : All (λ (o : Op). IsSome (unit_of_op bank_layout o)) (first_puts 8)
opening_units =
    all_weaker IsOpeningPut (λ (o : Op). IsSome (unit_of_op bank_layout o))
    (λ o p. subst (λ (u : Option ℕ). IsSome u) (sym (ap (unit_of_op bank_layout) p.is
    ∙ unit_of_account p.number p.low)) refl) (first_puts 8) all_opening

-- what is counted of a put of the opening
put_counts : (unit : ℕ) (o : Op) → IsOpeningPut o
    → (n : ℕ) × (n < 8) × (if_unit unit (unit_of_op bank_layout o) ≡ if_unit unit (Some (n % 4)))
put_counts unit o p = (
  p.number,
  p.low,
  ap (λ (x : Op). if_unit unit (unit_of_op bank_layout x)) p.is ∙ ap (if_unit unit) (unit_of_account p.number p.low),
)

sums_alike : (unit : ℕ) (xs : List ℕ) → All (λ (n : ℕ). n < 8) xs
    → sum_by (λ (o : Op). if_unit unit (unit_of_op bank_layout o)) (map opening_put xs) ≡ sum_by (λ (n : ℕ). if_unit unit (Some (n % 4))) xs
sums_alike unit [] all = refl
sums_alike unit (x ∷ xs) all =
    let f = λ (o : Op). if_unit unit (unit_of_op bank_layout o) in
    let g = λ (n : ℕ). if_unit unit (Some (n % 4)) in
    let c = sum_by-cons f (opening_put x) (map opening_put xs) in
    let d = sum_by-cons g x xs in
    let one = ap (if_unit unit) (unit_of_account x (All-head (λ (n : ℕ). n < 8) x xs all)) in
    let rest = sums_alike unit xs (All-tail (λ (n : ℕ). n < 8) x xs all) in
    omega (arith, c, d, one, rest)

pub opening_sum : (unit : ℕ) → unit < 4 → sum_by (λ (o : Op). if_unit unit (unit_of_op bank_layout o)) (first_puts 8) ≡ 2
unfolding first_puts
opening_sum unit low = sums_alike unit (range_with_len 0 8) lows ∙ two unit low
  where
    IsLow : ℕ → Type 0
    IsLow n = n < 8

    lows : All (λ (n : ℕ). n < 8) (range_with_len 0 8)
    lows =
        All-cons (λ (n : ℕ). n < 8) 0 (1 ∷ 2 ∷ 3 ∷ 4 ∷ 5 ∷ 6 ∷ 7 ∷ []) (omega arith)
        (All-cons (λ (n : ℕ). n < 8) 1 (2 ∷ 3 ∷ 4 ∷ 5 ∷ 6 ∷ 7 ∷ []) (omega arith)
        (All-cons (λ (n : ℕ). n < 8) 2 (3 ∷ 4 ∷ 5 ∷ 6 ∷ 7 ∷ []) (omega arith)
        (All-cons (λ (n : ℕ). n < 8) 3 (4 ∷ 5 ∷ 6 ∷ 7 ∷ []) (omega arith)
        (All-cons (λ (n : ℕ). n < 8) 4 (5 ∷ 6 ∷ 7 ∷ []) (omega arith)
        (All-cons (λ (n : ℕ). n < 8) 5 (6 ∷ 7 ∷ []) (omega arith)
        (All-cons (λ (n : ℕ). n < 8) 6 (7 ∷ []) (omega arith)
        (All-cons (λ (n : ℕ). n < 8) 7 [] (omega arith) (All-nil (λ (n : ℕ). n < 8)))))))))

    two : (u : ℕ) → u < 4 → sum_by (λ (n : ℕ). if_unit u (Some (n % 4))) (range_with_len 0 8) ≡ 2
    two zero l = refl
    two (suc zero) l = refl
    two (suc (suc zero)) l = refl
    two (suc (suc (suc zero))) l = refl
    two (suc (suc (suc (suc n)))) l = absurd (omega (arith, l))

-- ---- how often a unit is counted
module _ (unit : ℕ) where
  abbrev counted : Receipt → ℕ
  counted r = of_unit unit r.entry

  pub puts_few : (heap : HeapShown) (q r : CallerShown) (puts : List Op) (ends : List (Option Receipt)) → PutsEnd heap q r puts ends
      → sum_by counted (puts_given ends) ≤ sum_by (λ (o : Op). if_unit unit (unit_of_op bank_layout o)) puts
  puts_few heap q r [] [] k = omega arith
  puts_few heap q r (o ∷ os) (None ∷ es) k =
      let c = sum_by-cons (λ (x : Op). if_unit unit (unit_of_op bank_layout x)) o os in
      let rest = puts_few heap q r os es k.1 in omega (arith, c, rest)
  puts_few heap q r (o ∷ os) (Some x ∷ es) k =
      let c = sum_by-cons (λ (y : Op). if_unit unit (unit_of_op bank_layout y)) o os in
      let d = sum_by-cons counted x (puts_given es) in
      let one = ap (λ (y : Op). if_unit unit (unit_of_op bank_layout y)) k.0 in
      let rest = puts_few heap q r os es k.1 in omega (arith, c, d, one, rest)
  puts_few heap q r [] (e ∷ es) k = absurd k
  puts_few heap q r (o ∷ os) [] k = absurd k

  one_way : (up : Bool) (pair : Receipt × Receipt) → counted (of_low up pair) + counted (of_high up pair) ≡ counted pair.0 + counted pair.1
  one_way true pair = refl
  one_way false pair = omega arith

  pair_few : (s : Shift) (pair : Receipt × Receipt) → IsBetweenUnits s → HasGone s pair → counted pair.0 + counted pair.1 ≤ 1
  pair_few s pair between g =
      let from : unit_of_op bank_layout pair.0.entry.op ≡ unit_of_key bank_layout s.from = ap (unit_of_op bank_layout) g.moved.less in
      let to : unit_of_op bank_layout pair.1.entry.op ≡ unit_of_key bank_layout s.to = ap (unit_of_op bank_layout) g.moved.more in
      two_few unit (unit_of_op bank_layout pair.0.entry.op) (unit_of_op bank_layout pair.1.entry.op)
      (λ same. between (sym from ∙ same ∙ to))

  pub given_few : (heap : HeapShown) (q r : CallerShown) (earlier : List Receipt) (shifts : List Shift) (ends : List End)
      → All IsBetweenUnits shifts → HoldsOfEach (EndsBetween heap q r) earlier shifts ends → sum_by counted (all_given ends) ≤ length shifts
  given_few heap q r earlier [] [] between k = omega arith
  given_few heap q r earlier (s ∷ ss) (None ∷ es) between k =
      let rest = given_few heap q r (earlier ++ []) ss es (All-tail IsBetweenUnits s ss between) k.1 in omega (arith, rest)
  given_few heap q r earlier (s ∷ ss) (Some pair ∷ es) between k =
      let rest = given_few heap q r (earlier ++ receipts_given (Some pair)) ss es (All-tail IsBetweenUnits s ss between) k.1 in
      let low = of_low (goes_up pair) pair in
      let high = of_high (goes_up pair) pair in
      let c = sum_by-cons counted low (high ∷ all_given es) in
      let d = sum_by-cons counted high (all_given es) in
      let two = one_way (goes_up pair) pair in
      let one = pair_few s pair (All-head IsBetweenUnits s ss between) k.0 in
      omega (arith, c, d, two, one, rest)
  given_few heap q r earlier [] (e ∷ es) between k = absurd k
  given_few heap q r earlier (s ∷ ss) [] between k = absurd k

pub shifts_many : (number caller : ℕ) → length (first_shifts number caller 500) ≡ 500
unfolding first_shifts
shifts_many number caller = length-map (range_with_len 0 500) (shift_of_caller number caller)

-- ---- the histories
empty_at : (unit : ℕ) → unit < 4 → slice_get (empty_states bank_layout) unit ≡ Some (MapOf finite.empty)
empty_at zero low = refl
empty_at (suc zero) low = refl
empty_at (suc (suc zero)) low = refl
empty_at (suc (suc (suc zero))) low = refl
empty_at (suc (suc (suc (suc unit)))) low = absurd (omega (arith, low))

module _
    (heap : HeapShown) (number : ℕ) (base : Contents) (t : Stopped) (a b c d : CallerShown)
    (sh : HaveShifted heap number (a ∷ b ∷ c ∷ d ∷ []))
    (st : IsStopped bank_layout FIRST_CLOCK base (a ∷ b ∷ c ∷ d ∷ []) t)
    (empty : states_of base ≡ empty_states bank_layout) where
  abbrev opening : List Receipt
  opening = puts_given sh.ends

  pub legal_bank : AreLegal bank_layout FIRST_CLOCK (empty_states bank_layout) t.histories
  legal_bank = subst (λ (s : List State). AreLegal bank_layout FIRST_CLOCK s t.histories) empty st.legal

  module _ (unit : ℕ) (low : unit < 4) (h : List Entry) (at : slice_get t.histories unit ≡ Some h) where
    pub unit_legal : IsLegal bank_layout unit (MapOf finite.empty) FIRST_CLOCK h
    unit_legal = legal_bank.each unit (MapOf finite.empty) h (empty_at unit low) at

    abbrev Puts : Receipt → Type 0
    Puts r = PutsNumber r.entry

    opening_puts : All Puts opening
    opening_puts =
        all_weaker (λ (r : Receipt). IsOpeningPut r.entry.op) Puts (λ r p. puts_number r.entry p) opening
        (puts_hold heap sh.opened.first sh.opener IsOpeningPut (first_puts 8) sh.ends all_opening sh.opened.opened.puts.each)

    shifts_put : (caller : ℕ) (r : CallerShown) (k : HasShiftedAll heap number opening caller r) → All Puts (all_given k.made.ends)
    shifts_put caller r k =
        given_hold (EndsBetween heap k.begun r) Puts IsSmall (λ s pair before behind small gone. gone_puts s pair small gone) []
        (first_shifts number caller 500) k.made.ends (small_shifts number caller 500) k.made.each

    abbrev ga : List Receipt
    ga = all_given (sh.each 0 a refl).made.ends

    abbrev gb : List Receipt
    gb = all_given (sh.each 1 b refl).made.ends

    abbrev gc : List Receipt
    gc = all_given (sh.each 2 c refl).made.ends

    abbrev gd : List Receipt
    gd = all_given (sh.each 3 d refl).made.ends

    abbrev all : List Receipt
    all = (opening ++ ga) ++ (gb ++ (gc ++ (gd ++ [])))

    all_put : All Puts all
    all_put =
        All-append Puts (opening ++ ga) (gb ++ (gc ++ (gd ++ [])))
        (All-append Puts opening ga opening_puts (shifts_put 0 a (sh.each 0 a refl)))
        (All-append Puts gb (gc ++ (gd ++ [])) (shifts_put 1 b (sh.each 1 b refl))
        (All-append Puts gc (gd ++ []) (shifts_put 2 c (sh.each 2 c refl))
        (All-append Puts gd [] (shifts_put 3 d (sh.each 3 d refl)) (All-nil Puts))))

    pub unit_puts : All PutsNumber h
    unit_puts = history_holds t.histories all (names_once heap number base t a b c d sh st) PutsNumber all_put unit h at

    given_at : (caller : ℕ) (r : CallerShown) (k : HasShiftedAll heap number opening caller r)
        → sum_by (counted unit) (all_given k.made.ends) ≤ 500
    given_at caller r k =
        let n = given_few unit heap k.begun r [] (first_shifts number caller 500) k.made.ends
        (shifts_between number caller 500) k.made.each in
        let m = shifts_many number caller in omega (arith, n, m)

    all_few : sum_by (counted unit) all ≤ 2002
    all_few =
        let f = counted unit in
        let one = sum_by-append f (opening ++ ga) (gb ++ (gc ++ (gd ++ []))) in
        let two = sum_by-append f opening ga in
        let three = sum_by-append f gb (gc ++ (gd ++ [])) in
        let four = sum_by-append f gc (gd ++ []) in
        let five = ap (sum_by f) (append-nil gd) in
        let o = puts_few unit heap sh.opened.first sh.opener (first_puts 8) sh.ends sh.opened.opened.puts.each in
        let p = opening_sum unit low in
        let wa = given_at 0 a (sh.each 0 a refl) in
        let wb = given_at 1 b (sh.each 1 b refl) in
        let wc = given_at 2 c (sh.each 2 c refl) in
        let wd = given_at 3 d (sh.each 3 d refl) in
        omega (arith, one, two, three, four, five, o, p, wa, wb, wc, wd)

    pub unit_few : length h ≤ 2002
    unit_few =
        let count = all_count unit h unit_legal.of_unit in
        let one = one_of_all (sum_by (of_unit unit)) t.histories unit h at in
        let sums = each_once (of_unit unit) t.histories all (names_once heap number base t a b c d sh st) in
        let few = all_few in
        omega (arith, count, one, sums, few)
