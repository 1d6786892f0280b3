-- The total of the bank: what the opening put in, which took nothing out.
use Rattle.std.proofs.Common.{T, ◌≡◌, ◌≢◌, ℕ, zero, suc, ◌*◌, ◌%◌, ◌^◌, ◌<◌, Bool, true, false, List, [], ◌∷◌, ◌++◌, length, take, sym, refl, ap, ◌∙◌, subst, arith, inl, inr}
use Rattle.std.specs.Prelude.{◌⊎◌, ◌==◌, slice_get, Some, All, decimal, sum_by}
use Rattle.std.specs.declared.cmp.Ordering.{Ordering}
use Rattle.std.specs.declared.cmp.Ordering.TheVariants.{Less, Equal, Greater}
use Rattle.std.specs.Ordering.{is_eq, eq_by_cmp}
use Rattle.std.specs.FinMap as finite
use Rattle.std.proofs.Math.Facts.{eqb_yes}
use Rattle.std.proofs.Math.Nat.{mod-lt}
use Rattle.std.proofs.lemmas.Fmt.{decimal_injective}
use Rattle.std.proofs.lemmas.List.{length-map}
use Rattle.std.proofs.lemmas.List.Elements.{All-nil, All-append, All-head, All-tail}
use Rattle.std.proofs.lemmas.List.Sums.{sum_by-cons}
use Rattle.std.proofs.lemmas.Option.{same_Some, slice_get_within}
use Rattle.mont_base.specs.declared.constants.TheConstants.{FIRST_CLOCK, LAST}
use Rattle.mont_base.specs.declared.operation.Entry.{Entry}
use Rattle.mont_base.specs.declared.operation.Op.{Op}
use Rattle.mont_base.specs.declared.operation.Receipt.{Receipt}
use Rattle.mont_base.specs.declared.operation.Reply.TheVariants.{Nothing}
use Rattle.mont_base.specs.History.{RepliesFollow, state_after}
use Rattle.mont_base.specs.Image.{IsPermitted, IsRecovered, clock_of, empty_states}
use Rattle.mont_base.specs.Seen.{IsEntryAt, names_place}
use Rattle.mont_base.specs.State.{Key, MapOf, QueueOf, GraphOf, State, Value, earlier_text, key_cmp, step}
use Rattle.plain.specs.declared.contents.Contents.{Contents}
use Rattle.plain.specs.States.{states_of}
use Rattle.core_steps.proofs.RowFacts.{all_at, row_in_map}
use Rattle.heap.specs.FreshOpening.{fresh_opening}
use Rattle.heap.specs.HeapShown.{HeapShown, CallerShown}
use Rattle.store_stop.specs.declared.headline.Stopped.{Stopped}
use Rattle.store_stop.specs.Headline.{IsStopped}
use Rattle.store_stop.proofs.Items.{all_gives}
use Rattle.unit_totals.specs.MapBooks.{amount_in, amount_in_all, put_amount, put_in, taken_amount, taken_out}
use Rattle.unit_totals.proofs.Settled.{totals_kept}
use Rattle.big_job.specs.Digits.{number_spelled}
use Rattle.big_job.proofs.Spelled.{spelled-decimal}
use Rattle.bank_job.specs.Bank.{account, bank_layout, opening_put}
use Rattle.bank_job.proofs.Accounts.{unit_of_account}
use Rattle.bank_job.specs.BankText.{number_total, pairs_total}
use Rattle.bank_store.specs.BankCallers.{HasShiftedAll, HaveShifted}
use Rattle.bank_store.specs.Ends.{all_given}
use Rattle.bank_store.specs.MadeShifts.{ComesBehind, HasSeenPlace}
use Rattle.bank_store.specs.OpenedAccounts.{puts_given}
use Rattle.bank_store.proofs.BankOpening.{opening_there, opens, put_at, puts_many, unit_is}
use Rattle.bank_store.proofs.BankUnits.{unit_legal, unit_puts}
use Rattle.bank_store.proofs.NamedEntries.{both, found}
use Rattle.bank_store.proofs.NumberHistories.{PutsElsewhere, PutsNumber, not_put, pairs_behind}
use Rattle.bank_store.proofs.ShiftsMade.{all_weaker}
use Rattle.bank_store.proofs.StoppedBank.{names_once, transfers}

-- ---- sums
no_entries : (f : Key × Value → ℕ) (es : List (Key × Value)) → length es ≡ 0 → sum_by f es ≡ 0
no_entries f [] e = refl
no_entries f (x ∷ xs) e = absurd (omega (arith, e))

empty_amount : amount_in number_spelled (MapOf finite.empty) ≡ 0
empty_amount =
    no_entries (λ (e : Key × Value). number_spelled e.1) (finite.entries finite.empty)
    (sym (finite.len-entries finite.empty) ∙ finite.len-empty key_cmp Value)

nothing_amount : amount_in_all number_spelled (empty_states bank_layout) ≡ 0
nothing_amount =
    let f = amount_in number_spelled in
    let m = empty_amount in
    omega (arith, m)

pairs_same : (s : State) → pairs_total s ≡ amount_in number_spelled s
pairs_same (MapOf m) = refl
pairs_same (QueueOf items) = refl
pairs_same (GraphOf g) = refl

totals_same : (states : List State) → sum_by pairs_total states ≡ amount_in_all number_spelled states
totals_same [] = refl
totals_same (s ∷ ss) =
    let c = sum_by-cons pairs_total s ss in
    let d = sum_by-cons (amount_in number_spelled) s ss in
    let one = pairs_same s in
    let rest = totals_same ss in omega (arith, c, d, one, rest)

all_alike : {A : Type 0} (f : A → ℕ) (n : ℕ) (xs : List A) → All (λ (x : A). f x ≡ n) xs → sum_by f xs ≡ n * length xs
all_alike f n [] all = omega arith
all_alike {A} f n (x ∷ xs) all =
    let c = sum_by-cons f x xs in
    let one = All-head (λ (y : A). f y ≡ n) x xs all in
    let rest = all_alike f n xs (All-tail (λ (y : A). f y ≡ n) x xs all) in
    omega (arith, c, one, rest)

-- ---- keys
tied_equal : (r : Ordering) → is_eq r ≡ true → r ≡ Equal
tied_equal Less e = absurd (cc e)
tied_equal Equal e = refl
tied_equal Greater e = absurd (cc e)

keys_differ : (m n : ℕ) → m < 8 → n < 8 → m ≢ n → eq_by_cmp key_cmp (account m) (account n) ≡ false
keys_differ m n low small differ = by (eq_by_cmp key_cmp (account m) (account n)) refl
  where
    by : (b : Bool) → eq_by_cmp key_cmp (account m) (account n) ≡ b → b ≡ false
    by false e = refl
    by true e =
        let same = (finite.slice_cmp-IsAntisymmetric finite.nat_cmp-IsAntisymmetric) (account m) (account n)
        (tied_equal (key_cmp (account m) (account n)) e) in
        absurd (differ (decimal_injective m n (omega (arith, low)) (omega (arith, small)) same))

-- ---- the reply at a place
reply_at : (s : State) (h : List Entry) (place : ℕ) (e : Entry) → RepliesFollow s h → slice_get h place ≡ Some e
    → e.reply ≡ (step (state_after s (take place h)) e.op).reply
reply_at s [] place e follow at = absurd (cc at)
reply_at s (d ∷ h) zero e follow at =
    let same = same_Some d e at in subst (λ (x : Entry). x.reply ≡ (step s x.op).reply) same follow.0
reply_at s (d ∷ h) (suc place) e follow at = reply_at (step s d.op).state h place e follow.1 at

taken_item : (h : List Entry) (place i : ℕ) (e : Entry) → slice_get (take place h) i ≡ Some e → (slice_get h i ≡ Some e) × (i < place)
taken_item h zero i e at = absurd (cc at)
taken_item [] (suc place) i e at = absurd (cc at)
taken_item (d ∷ h) (suc place) zero e at = (at, omega arith)
taken_item (d ∷ h) (suc place) (suc i) e at =
    let k = taken_item h place i e at in (k.0, omega (arith, k.1))

front_of : (P : Entry → Type 0) (h : List Entry) (place : ℕ) → All P h → All P (take place h)
front_of P h place all =
    all_at P (take place h) (λ i e at. all_gives P h i e all (taken_item h place i e at).0)

module _
    (heap : HeapShown) (number : ℕ) (base : Contents) (t : Stopped) (a b c d : CallerShown)
    (sh : HaveShifted heap number (a ∷ b ∷ c ∷ d ∷ []))
    (st : IsStopped bank_layout FIRST_CLOCK base (a ∷ b ∷ c ∷ d ∷ []) t)
    (empty : states_of base ≡ empty_states bank_layout) (o : heap.opening ≡ fresh_opening bank_layout 4) where
  abbrev opening : List Receipt
  opening = puts_given sh.ends

  -- the receipt is one of the opening, or its entry comes after these in its unit
  abbrev Comes : Receipt → Type 0
  Comes y =
      ((m : ℕ) × (slice_get opening m ≡ Some y))
      ⊎ ((m : ℕ) (x : Receipt) → slice_get opening m ≡ Some x → x.unit ≡ y.unit → x.place < y.place)

  shifts_come : (caller : ℕ) (r : CallerShown) (k : HasShiftedAll heap number opening caller r) → All Comes (all_given k.made.ends)
  shifts_come caller r k = all_weaker (ComesBehind k.begun.known) Comes (λ y behind. inr (later y behind))
      (all_given k.made.ends) k.made.behind
    where
      later : (y : Receipt) → ComesBehind k.begun.known y → (m : ℕ) (x : Receipt) → slice_get opening m ≡ Some x → x.unit ≡ y.unit
          → x.place < y.place
      later y behind m x at same =
          let s = all_gives (HasSeenPlace k.begun.known) opening m x k.ready.knows.seen at in
          let l = behind s.front (ap (λ (u : ℕ). slice_get k.begun.known.entries u) (sym same) ∙ s.of_unit) in
          omega (arith, l, s.inside)

  abbrev ga : List Receipt
  ga = all_given (sh.each 0 a refl).made.ends

  abbrev gb : List Receipt
  gb = all_given (sh.each 1 b refl).made.ends

  abbrev gc : List Receipt
  gc = all_given (sh.each 2 c refl).made.ends

  abbrev gd : List Receipt
  gd = all_given (sh.each 3 d refl).made.ends

  abbrev all : List Receipt
  all = (opening ++ ga) ++ (gb ++ (gc ++ (gd ++ [])))

  all_come : All Comes all
  all_come =
      All-append Comes (opening ++ ga) (gb ++ (gc ++ (gd ++ [])))
      (All-append Comes opening ga (all_at Comes opening (λ m y at. inl (m, at))) (shifts_come 0 a (sh.each 0 a refl)))
      (All-append Comes gb (gc ++ (gd ++ [])) (shifts_come 1 b (sh.each 1 b refl))
      (All-append Comes gc (gd ++ []) (shifts_come 2 c (sh.each 2 c refl))
      (All-append Comes gd [] (shifts_come 3 d (sh.each 3 d refl)) (All-nil Comes))))

  all_named : All (λ (y : Receipt). Comes y × IsEntryAt t.histories y.unit y.place y.entry) all
  all_named =
      let there = (names_once heap number base t a b c d sh st).there in
      all_at (λ (y : Receipt). Comes y × IsEntryAt t.histories y.unit y.place y.entry) all
      (λ i y at. (
        all_gives Comes all i y all_come at,
        all_gives (λ (x : Receipt). IsEntryAt t.histories x.unit x.place x.entry) all i y there at,
      ))

  -- which put an opening's receipt is of
  put_is : (m : ℕ) (y : Receipt) → slice_get opening m ≡ Some y → m < 8 → y.entry.op ≡ opening_put m
  put_is m y at low =
      same_Some y.entry.op (opening_put m)
      (sym (row_in_map (λ (r : Receipt). r.entry.op) opening m y at)
      ∙ ap (λ (os : List Op). slice_get os m) (opens heap number base t a b c d sh st empty o) ∙ put_at m low)

  opening_len : length opening ≡ 8
  opening_len =
      sym (length-map opening (λ (r : Receipt). r.entry.op)) ∙ ap length (opens heap number base t a b c d sh st empty o) ∙ puts_many

  index_low : (m : ℕ) (y : Receipt) → slice_get opening m ≡ Some y → m < 8
  index_low m y at = let l = slice_get_within opening m y at in let n = opening_len in omega (arith, l, n)

  -- nothing was there before
  module _ (n : ℕ) (r : Receipt) (at : slice_get opening n ≡ Some r) where
    there : IsEntryAt t.histories r.unit r.place r.entry
    there =
        all_gives (λ (y : Receipt). IsEntryAt t.histories y.unit y.place y.entry) opening n r
        (opening_there heap number base t a b c d sh st empty o) at

    unit_low : r.unit < 4
    unit_low =
        let n_low = index_low n r at in
        let same = unit_is heap number base t a b c d sh st empty o r n (n % 4) there (put_is n r at n_low) (unit_of_account n n_low)
        (all_gives (λ (y : Receipt). y.unit < 6) opening n r sh.opened.opened.puts.units at) in
        let m = mod-lt n {m = 4} (omega arith) in
        omega (arith, same, m)

    elsewhere : (j : ℕ) (e : Entry) → slice_get there.0 j ≡ Some e → j < r.place → PutsElsewhere (account n) e
    elsewhere j e at_j below =
        let once = (names_once heap number base t a b c d sh st).once r.unit j e (there.0, there.1, at_j) in
        let f = found (λ (y : Receipt). Comes y × IsEntryAt t.histories y.unit y.place y.entry) (names_place r.unit j) all all_named
        (omega (arith, once)) in
        let y = f.0 in
        let names = both (y.unit == r.unit) (y.place == j) f.1 in
        let u : y.unit ≡ r.unit = eqb_yes (subst T (sym names.0) tt) in
        let p : y.place ≡ j = eqb_yes (subst T (sym names.1) tt) in
        by y u p f.2.0 f.2.1
      where
        by : (y : Receipt) → y.unit ≡ r.unit → y.place ≡ j → Comes y → IsEntryAt t.histories y.unit y.place y.entry
            → PutsElsewhere (account n) e
        by y u p (inr behind) at_y =
            absurd (let l = behind n r at (sym u) in omega (arith, l, p, below))
        by y u p (inl (m, of_m)) (h, there_h, at_h) =
            let m_low = index_low m y of_m in
            let n_low = index_low n r at in
            let differ : m ≢ n = λ same. other m y of_m p same in
            let same_h : h ≡ there.0 = same_Some h there.0 (sym there_h ∙ ap (λ (v : ℕ). slice_get t.histories v) u ∙ there.1) in
            let is_e : y.entry ≡ e =
            same_Some y.entry e (sym at_h ∙ (λ i. slice_get (same_h i) (p i)) ∙ at_j) in (
              account m,
              decimal 1000,
              ap (λ (x : Entry). x.op) (sym is_e) ∙ put_is m y of_m m_low,
              keys_differ n m n_low m_low (λ same. differ (sym same)),
            )
          where
            other : (k : ℕ) (x : Receipt) → slice_get opening k ≡ Some x → x.place ≡ j → k ≡ n → ⊥
            other k x of_k q same =
                let is_r : x ≡ r = same_Some x r (sym of_k ∙ ap (λ (v : ℕ). slice_get opening v) same ∙ at) in
                let place = ap (λ (v : Receipt). v.place) is_r in
                omega (arith, place, q, below)

    takes_nothing : taken_out number_spelled r.entry ≡ 0
    takes_nothing =
        let n_low = index_low n r at in
        let put = put_is n r at n_low in
        let h = there.0 in
        let legal = unit_legal heap number base t a b c d sh st empty r.unit unit_low h there.1 in
        let puts = unit_puts heap number base t a b c d sh st empty r.unit unit_low h there.1 in
        let front = take r.place h in
        let all_else : All (PutsElsewhere (account n)) front =
        all_at (PutsElsewhere (account n)) front
        (λ i e got. let k = taken_item h r.place i e got in elsewhere i e k.0 k.1) in
        let none = not_put front finite.empty (account n) (finite.get-empty key_cmp (account n)) all_else in
        let state = pairs_behind front finite.empty (front_of PutsNumber h r.place puts) in
        let reply : r.entry.reply ≡ Nothing =
        reply_at (MapOf finite.empty) h r.place r.entry legal.replies there.2
        ∙ (λ i. (step (state i) (put i)).reply) ∙ ap earlier_text none in
        λ i. taken_amount number_spelled (put i) (reply i)

    puts_in : put_in number_spelled r.entry ≡ 1000
    puts_in =
        ap (put_amount number_spelled) (put_is n r at (index_low n r at)) ∙ spelled-decimal 1000 (omega arith)

  pub total_kept : (image : List ℕ) (states : List State) → IsPermitted t.words.cur t.words.dur image → IsRecovered bank_layout image states
      → clock_of image < LAST → number_total states ≡ 8000
  total_kept image states permitted recovered below =
      let law = totals_kept number_spelled bank_layout FIRST_CLOCK base
      (a ∷ b ∷ c ∷ d ∷ []) t image states opening _ [] st permitted recovered
      (transfers heap number base t a b c d sh st image permitted below) in
      let nothing = ap (amount_in_all number_spelled) empty ∙ nothing_amount in
      let taken = all_alike (λ (r : Receipt). taken_out number_spelled r.entry) 0 opening
      (all_at (λ (r : Receipt). taken_out number_spelled r.entry ≡ 0) opening (λ n r at. takes_nothing n r at)) in
      let put = all_alike (λ (r : Receipt). put_in number_spelled r.entry) 1000 opening
      (all_at (λ (r : Receipt). put_in number_spelled r.entry ≡ 1000) opening (λ n r at. puts_in n r at)) in
      let many = opening_len in
      let same = totals_same states in
      let sum : sum_by pairs_total states ≡ 8000 = omega (arith, law, nothing, taken, put, many, same) in
      ap (λ (n : ℕ). n % 2 ^ 64) sum
