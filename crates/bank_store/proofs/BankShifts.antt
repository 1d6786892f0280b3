-- A shift of the bank that was passed over: there was too little.
use Rattle.std.proofs.Common.{◌≡◌, ℕ, zero, suc, ◌*◌, ◌<◌, ◌≤◌, Bool, true, false, List, [], ◌∷◌, ◌++◌, length, take, sym, refl, ap, ◌∙◌, subst, arith, inl, inr}
use Rattle.std.specs.Prelude.{◌⊎◌, slice_get, Option, Some, None, All, decimal}
use Rattle.std.specs.List.{range_with_len}
use Rattle.std.specs.FinMap as finite
use Rattle.std.proofs.Math.Nat.{mod-lt}
use Rattle.std.proofs.lemmas.Fmt.{decimal_injective}
use Rattle.std.proofs.lemmas.List.{append-nil}
use Rattle.std.proofs.lemmas.List.Elements.{All-nil, All-append}
use Rattle.std.proofs.lemmas.Option.{same_Some}
use Rattle.mont_base.specs.declared.constants.TheConstants.{FIRST_CLOCK}
use Rattle.mont_base.specs.declared.operation.Entry.{Entry}
use Rattle.mont_base.specs.declared.operation.Op.{Op}
use Rattle.mont_base.specs.declared.operation.Op.TheVariants as ops
use Rattle.mont_base.specs.declared.operation.Receipt.{Receipt}
use Rattle.mont_base.specs.declared.operation.Reply.{Reply}
use Rattle.mont_base.specs.declared.operation.Reply.TheVariants.{WasText}
use Rattle.mont_base.specs.declared.refusal.Which.{Which}
use Rattle.mont_base.specs.declared.refusal.Which.TheVariants as ends
use Rattle.mont_base.specs.History.{state_after}
use Rattle.mont_base.specs.Image.{empty_states}
use Rattle.mont_base.specs.Layout.{unit_of_key}
use Rattle.mont_base.specs.State.{Key, MapOf, State, Value, earlier_text, step}
use Rattle.plain.specs.declared.contents.Contents.{Contents}
use Rattle.plain.specs.States.{states_of}
use Rattle.core_steps.proofs.RowFacts.{row_in_map}
use Rattle.heap_rule.specs.declared.rule.Opening.{Opening}
use Rattle.heap.specs.FreshOpening.{fresh_opening}
use Rattle.heap.specs.HeapShown.{HeapShown, CallerShown}
use Rattle.caller.specs.Continued.{GoesOn}
use Rattle.store_stop.specs.declared.headline.Stopped.{Stopped}
use Rattle.store_stop.specs.Headline.{IsStopped, parts_shown}
use Rattle.shard_map.specs.declared.shift_refusal.ShiftRefusal.{ShiftRefusal}
use Rattle.shard_map.specs.declared.shift_refusal.ShiftRefusal.TheVariants.{SameUnit, Halted, Missing, Short, Over, CountEnd, Memory, Full, Cut}
use Rattle.shard_map.specs.MovedNumbers.{CannotMove, IsNumber, of_high, of_low}
use Rattle.store.specs.Shifting.{AreMove, AreOfTwoUnits, FoundOneFull, HasLearntValue, IsRefusedBetween, NeedsPairNumber, TellsBetween}
use Rattle.store.specs.StoreCalls.{FoundFull, NeedsNumber}
use Rattle.store.specs.StoreShown.{StoreShown}
use Rattle.bank_job.specs.declared.shifts.Shift.{Shift}
use Rattle.bank_job.specs.Bank.{account, bank_layout}
use Rattle.bank_job.specs.Shifts.{first_shifts, shift_of_caller}
use Rattle.bank_store.specs.BankCallers.{HasShiftedAll, HaveShifted}
use Rattle.bank_store.specs.BankRun.{ShiftEnds, WasShort, begun_with}
use Rattle.bank_store.specs.Ends.{End, HoldsOfEach, all_given, receipts_given}
use Rattle.bank_store.specs.MadeShifts.{ComesBehind, EndsBetween, HasSeenPlace, WasPassedOver, is_passed_over}
use Rattle.bank_store.specs.OpenedAccounts.{puts_given}
use Rattle.bank_store.proofs.BankBase.{bank_on, front_taken, key_unit_low, of_bank}
use Rattle.bank_store.proofs.BankCauses.{learnt, never_at_end, never_full}
use Rattle.bank_store.proofs.BankOpening.{account_there, few_puts}
use Rattle.bank_store.proofs.BankUnits.{shifts_many}
use Rattle.bank_store.proofs.EndLists.{holds_behind}
use Rattle.bank_store.proofs.GivenEntries.{all_mapped}
use Rattle.bank_store.proofs.NumberHistories.{HasKey, pairs_after}
use Rattle.bank_store.proofs.PutHistories.{number_there}
use Rattle.bank_store.proofs.SeenCalls.{begins_longer, goes_further, goes_keeping, seen_later}
use Rattle.bank_store.proofs.ShiftsMade.{all_weaker}
use Rattle.bank_store.proofs.StoppedBank.{unmarked}

-- ---- what the shifts of a caller are
pub record IsBankShift (s : Shift) : Type 0 where
  pub from : ℕ
  pub from_low : from < 8
  pub from_is : s.from ≡ account from
  pub to : ℕ
  pub to_low : to < 8
  pub to_is : s.to ≡ account to
  pub small : s.amount < 100

pub bank_shifts : (number caller count : ℕ) → All IsBankShift (first_shifts number caller count)
unfolding first_shifts shift_of_caller
bank_shifts number caller count =
    all_mapped IsBankShift (shift_of_caller number caller)
    (λ place. record {
      from = _;
      from_low = mod-lt _ (omega arith);
      from_is = refl;
      to = _;
      to_low = mod-lt _ (omega arith);
      to_is = refl;
      small = mod-lt _ (omega arith);
    }) (range_with_len 0 count)

-- ---- numbers
one_number : (found : Option Value) (m n : ℕ) → IsNumber found m → IsNumber found n → m ≡ n
one_number None m n a b = absurd a
one_number (Some v) m n a b = decimal_injective m n a.short b.short (sym a.is ∙ b.is)

number_told : (found : Option Value) (n : ℕ) → IsNumber found n → earlier_text found ≡ WasText (decimal n)
number_told None n a = absurd a
number_told (Some v) n a = ap WasText a.is

-- how many receipts a caller was given
pub given_many : (Holds : Shift → End → List Receipt → List Receipt
    → Type 0) (earlier : List Receipt) (shifts : List Shift) (ends : List End)
    → HoldsOfEach Holds earlier shifts ends → length (all_given ends) ≤ 2 * length shifts
given_many Holds earlier [] [] k = omega arith
given_many Holds earlier (s ∷ ss) (None ∷ es) k = let n = given_many Holds (earlier ++ []) ss es k.1 in omega (arith, n)
given_many Holds earlier (s ∷ ss) (Some pair ∷ es) k =
    let n = given_many Holds (earlier ++ receipts_given (Some pair)) ss es k.1 in omega (arith, n)
given_many Holds earlier [] (e ∷ es) k = absurd k
given_many Holds earlier (s ∷ ss) [] k = absurd k

-- a move is of two puts
record ArePuts (operations : Op × Op) : Type 0 where
  pub low_key : List ℕ
  pub low_value : List ℕ
  pub low : operations.0 ≡ ops.Put low_key low_value
  pub high_key : List ℕ
  pub high_value : List ℕ
  pub high : operations.1 ≡ ops.Put high_key high_value

move_puts : (up : Bool) (from to : Key) (amount : ℕ) (operations : Op × Op) (replies : Reply × Reply)
    → AreMove up from to amount operations replies → ArePuts operations
move_puts true from to amount operations replies m =
    record { low_key = _; low_value = _; low = m.less; high_key = _; high_value = _; high = m.more }
move_puts false from to amount operations replies m =
    record { low_key = _; low_value = _; low = m.more; high_key = _; high_value = _; high = m.less }

module _
    (heap : HeapShown) (number : ℕ) (base : Contents) (t : Stopped) (a b c d : CallerShown)
    (sh : HaveShifted heap number (a ∷ b ∷ c ∷ d ∷ []))
    (st : IsStopped bank_layout FIRST_CLOCK base (a ∷ b ∷ c ∷ d ∷ []) t)
    (empty : states_of base ≡ empty_states bank_layout) (o : heap.opening ≡ fresh_opening bank_layout 4)
    (caller : ℕ) (r : CallerShown) (of_caller : slice_get (a ∷ b ∷ c ∷ d ∷ []) caller ≡ Some r)
    (k : HasShiftedAll heap number (puts_given sh.ends) caller r) where
  abbrev opening : List Receipt
  opening = puts_given sh.ends

  begun_few : (n : ℕ) → length (begun_with opening n) ≤ 8
  begun_few zero = few_puts heap number base t a b c d sh st empty o
  begun_few (suc n) = omega arith

  -- what it was given before its shifts it had seen
  begun_seen : (n : ℕ) → All (HasSeenPlace k.begun.known) (begun_with opening n)
  begun_seen zero = k.ready.knows.seen
  begun_seen (suc n) = All-nil (HasSeenPlace k.begun.known)

  few_calls : r.known.part.calls ≤ 1008
  few_calls =
      let n = k.made.calls in
      let m = k.ready.calls in
      let f = begun_few caller in
      let g = given_many (EndsBetween heap k.begun r) [] (first_shifts number caller 500) k.made.ends k.made.each in
      let h = shifts_many number caller in
      omega (arith, n, m, f, g, h)

  module _ (s : Shift) (is : IsBankShift s) (earlier later : List Receipt) (w : WasPassedOver heap k.begun r s earlier later) where
    before : CallerShown
    before = w.before

    abbrev behind : CallerShown
    behind = w.behind

    on : GoesOn w.behind.known r.known
    on = w.goes_on

    calls_low : w.before.known.part.calls ≤ 1008
    calls_low = let n = few_calls in omega (arith, n, w.calls)

    step_on : GoesOn w.before.known w.behind.known
    step_on = goes_keeping w.before w.behind w.over.keeps

    opening_seen : All (HasSeenPlace w.behind.known) opening
    opening_seen =
        all_weaker (HasSeenPlace k.begun.known) (HasSeenPlace w.behind.known)
        (λ x p. seen_later k.begun.known w.behind.known x (goes_further k.begun.known w.before.known w.behind.known w.begun step_on) p)
        opening k.ready.knows.seen

    -- ---- one of the two accounts, and what was learnt of it
    record Side (key : Key) (found : Option Value) : Type 0 where
      pub unit : ℕ
      pub of_key : unit_of_key bank_layout key ≡ Some unit
      pub value : HasLearntValue (bank_on heap) unit w.behind key found

    record Known (key : Key) (found : Option Value) : Type 0 where
      pub unit : ℕ
      pub of_key : unit_of_key bank_layout key ≡ Some unit
      pub history : List Entry
      pub kept : slice_get w.behind.known.entries unit ≡ Some history
      pub whole : List Entry
      pub there : slice_get t.histories unit ≡ Some whole
      pub front : take (length history) whole ≡ history
      pub inside : length history ≤ length whole
      pub holds : earlier_text found ≡ (step (state_after (MapOf finite.empty) history) (ops.Get key)).reply
      pub amount : ℕ
      pub is_number : IsNumber found amount
      pub low : amount ≤ 201200

    known : (n : ℕ) → n < 8 → (key : Key) → key ≡ account n → (found : Option Value) → Side key found → Known key found
    known n low key key_is found side =
        let l = learnt heap number base t a b c d sh st empty o caller r of_caller w.behind w.goes_on side.unit
        (key_unit_low key side.unit side.of_key)
        (λ (x : State) (history : List Entry). earlier_text found ≡ (step (state_after x history) (ops.Get key)).reply) side.value in
        let f = l.2 in
        let named : unit_of_key bank_layout (account n) ≡ Some side.unit = ap (unit_of_key bank_layout) (sym key_is) ∙ side.of_key in
        let has = account_there heap number base t a b c d sh st empty o caller r of_caller w.behind w.goes_on opening_seen n low
        side.unit named
        l.0 l.1 in
        let m = number_there l.0 f.puts f.follow f.few key found l.3 (subst (HasKey (pairs_after finite.empty l.0)) (sym key_is) has) in
        record {
          unit = side.unit;
          of_key = side.of_key;
          history = l.0;
          kept = l.1;
          whole = f.whole;
          there = f.there;
          front = front_taken f.whole l.0 f.begins;
          inside = begins_longer f.whole l.0 f.begins;
          holds = l.3;
          amount = m.0;
          is_number = m.1;
          low = omega (arith, m.2, f.few);
        }

    -- ---- there was too little
    too_little : (have : ℕ) (out : Option Value) → Known s.from out → IsNumber out have → have < s.amount
        → WasShort t.histories s (begun_with opening caller ++ earlier) later
    too_little have out m is_have less =
        record {
          unit = m.unit;
          of_from = m.of_key;
          history = m.whole;
          of_unit = m.there;
          first = length m.history;
          there = m.inside;
          have = have;
          holds =
              ap (λ (h : List Entry). (step (state_after (MapOf finite.empty) h) (ops.Get s.from)).reply) m.front
              ∙ sym m.holds ∙ number_told out have is_have;
          less = less;
          behind =
              all_weaker (HasSeenPlace w.before.known) (λ (x : Receipt). x.unit ≡ m.unit → x.place < length m.history)
              (λ x p same. seen_before x p same) (begun_with opening caller ++ earlier)
              (All-append (HasSeenPlace w.before.known) (begun_with opening caller) earlier
              (all_weaker (HasSeenPlace k.begun.known) (HasSeenPlace w.before.known)
              (λ x p. seen_later k.begun.known w.before.known x w.begun p) (begun_with opening caller) (begun_seen caller)) w.seen);
          before =
              all_weaker (ComesBehind w.behind.known) (λ (x : Receipt). x.unit ≡ m.unit → length m.history ≤ x.place)
              (λ x p same. p m.history (ap (λ (u : ℕ). slice_get w.behind.known.entries u) same ∙ m.kept)) later w.come_later;
        }
      where
        seen_before : (x : Receipt) → HasSeenPlace w.before.known x → x.unit ≡ m.unit → x.place < length m.history
        seen_before x p same =
            let q = seen_later w.before.known w.behind.known x step_on p in
            let front : q.front ≡ m.history =
            same_Some q.front m.history (sym q.of_unit ∙ ap (λ (u : ℕ). slice_get w.behind.known.entries u) same ∙ m.kept) in
            subst (λ (h : List Entry). x.place < length h) front q.inside

    -- ---- the causes
    lacks : (why : ShiftRefusal) (out into : Option Value) → CannotMove s.from s.to out into s.amount why → Known s.from out
        → Known s.to into
        → WasShort t.histories s (begun_with opening caller ++ earlier) later
    lacks (Missing key) out into (inl (e, none)) f g = absurd (none f.amount f.is_number)
    lacks (Missing key) out into (inr (e, has, none)) f g = absurd (none g.amount g.is_number)
    lacks (Short have) out into (is_have, has, less) f g = too_little have out f is_have less
    lacks (Over have) out into (enough, is_have, over) f g =
        let same = one_number into have g.amount is_have g.is_number in
        absurd (omega (arith, same, g.low, over, is.small))
    lacks (SameUnit unit) out into cannot f g = absurd cannot
    lacks (Halted unit by) out into cannot f g = absurd cannot
    lacks (CountEnd which) out into cannot f g = absurd cannot
    lacks Memory out into cannot f g = absurd cannot
    lacks (Full unit need free clock) out into cannot f g = absurd cannot
    lacks (Cut unit first) out into cannot f g = absurd cannot

    module _ (low high : ℕ) (low_four : low < 4) (high_four : high < 4) where
      end_of : (unit : ℕ) → unit < 4 → (op : Op) (key value : List ℕ) → op ≡ ops.Put key value → (which : Which)
          → NeedsNumber (bank_on heap) unit w.before w.behind op which → ⊥
      end_of unit four op key value put which needs =
          never_at_end heap number base t a b c d sh st empty o caller r of_caller w.behind w.goes_on unit four w.before
          (let n = calls_low in omega (arith, n)) key value which
          (subst (λ (x : Op). NeedsNumber (bank_on heap) unit w.before w.behind x which) put needs)

      one_end : (operations : Op × Op) → ArePuts operations → (which : Which)
          → NeedsNumber (bank_on heap) low w.before w.behind operations.0 which ⊎ NeedsNumber (bank_on heap) high w.before w.behind
          operations.1 which → ⊥
      one_end operations p which (inl needs) = end_of low low_four operations.0 p.low_key p.low_value p.low which needs
      one_end operations p which (inr needs) = end_of high high_four operations.1 p.high_key p.high_value p.high which needs

      pair_end : (operations : Op × Op) → ArePuts operations → (which : Which)
          → NeedsPairNumber (bank_on heap) low high w.before w.behind operations which → ⊥
      pair_end operations p ends.Call needs = let n = calls_low in omega (arith, n, needs)
      pair_end operations p ends.Place needs = one_end operations p ends.Place needs
      pair_end operations p ends.Identity needs = one_end operations p ends.Identity needs
      pair_end operations p ends.Version needs = one_end operations p ends.Version needs
      pair_end operations p ends.Serial needs = one_end operations p ends.Serial needs

      full_of : (unit : ℕ) → unit < 4 → (op : Op) (key value : List ℕ) → op ≡ ops.Put key value → (need free clock : ℕ)
          → FoundFull (bank_on heap) unit w.before w.behind op need free clock → ⊥
      full_of unit four op key value put need free clock full =
          never_full heap number base t a b c d sh st empty o caller r of_caller w.behind w.goes_on unit four w.before key value need
          free clock
          (subst (λ (x : Op). FoundFull (bank_on heap) unit w.before w.behind x need free clock) put full)

      one_full : (operations : Op × Op) → ArePuts operations → (unit need free clock : ℕ)
          → FoundOneFull (bank_on heap) low high w.before w.behind operations unit need free clock → ⊥
      one_full operations p unit need free clock (inl (e, full)) =
          full_of low low_four operations.0 p.low_key p.low_value p.low need free clock full
      one_full operations p unit need free clock (inr (e, full)) =
          full_of high high_four operations.1 p.high_key p.high_value p.high need free clock full

      told : (up : Bool) → ((out into : Option Value)
          → HasLearntValue (bank_on heap) low w.behind (of_low up (s.from, s.to)) (of_low up (out, into))
          → HasLearntValue (bank_on heap) high w.behind (of_high up (s.from, s.to)) (of_high up (out, into)) → Side s.from out × Side s.to
          into)
          → (why : ShiftRefusal) → is_passed_over why ≡ true → TellsBetween (bank_on heap) up low high w.before w.behind s.from s.to
          s.amount why
          → WasShort t.histories s (begun_with opening caller ++ earlier) later
      told up sides (SameUnit unit) passed tells = absurd (cc passed)
      told up sides (Halted unit by) passed tells =
          absurd (unmarked heap number base t a b c d sh st caller r.known.part (record { unit = unit; by = Some by }) part_at
          (w.goes_on.marks (record { unit = unit; by = Some by }) tells.2))
        where
          part_at : slice_get (parts_shown (a ∷ b ∷ c ∷ d ∷ [])) caller ≡ Some r.known.part
          part_at = row_in_map (λ (x : CallerShown). x.known.part) (a ∷ b ∷ c ∷ d ∷ []) caller r of_caller
      told up sides (Missing key) passed tells =
          let x = sides tells.out tells.into tells.lower tells.higher in
          lacks (Missing key) tells.out tells.into tells.cannot (known is.from is.from_low s.from is.from_is tells.out x.0)
          (known is.to is.to_low s.to is.to_is tells.into x.1)
      told up sides (Short have) passed tells =
          let x = sides tells.out tells.into tells.lower tells.higher in
          lacks (Short have) tells.out tells.into tells.cannot (known is.from is.from_low s.from is.from_is tells.out x.0)
          (known is.to is.to_low s.to is.to_is tells.into x.1)
      told up sides (Over have) passed tells =
          let x = sides tells.out tells.into tells.lower tells.higher in
          lacks (Over have) tells.out tells.into tells.cannot (known is.from is.from_low s.from is.from_is tells.out x.0)
          (known is.to is.to_low s.to is.to_is tells.into x.1)
      told up sides (CountEnd which) passed tells =
          absurd (pair_end tells.operations
          (move_puts up s.from s.to s.amount tells.operations tells.planned.replies tells.planned.move) which tells.needs)
      told up sides Memory passed tells = absurd (cc passed)
      told up sides (Full unit need free clock) passed tells =
          absurd (one_full tells.operations
          (move_puts up s.from s.to s.amount tells.operations tells.planned.replies tells.planned.move) unit need free clock tells.full)
      told up sides (Cut unit first) passed tells = absurd (cc passed)

    both_sides : (up : Bool) (low high : ℕ) → unit_of_key bank_layout (of_low up (s.from, s.to)) ≡ Some low
        → unit_of_key bank_layout (of_high up (s.from, s.to)) ≡ Some high → (out into : Option Value)
        → HasLearntValue (bank_on heap) low w.behind (of_low up (s.from, s.to)) (of_low up (out, into))
        → HasLearntValue (bank_on heap) high w.behind (of_high up (s.from, s.to)) (of_high up (out, into)) → Side s.from out × Side s.to
        into
    both_sides true low high l h out into x y =
        (record { unit = low; of_key = l; value = x }, record { unit = high; of_key = h; value = y })
    both_sides false low high l h out into x y =
        (record { unit = high; of_key = h; value = y }, record { unit = low; of_key = l; value = x })

    pub was_short : WasShort t.histories s (begun_with opening caller ++ earlier) later
    was_short =
        let tells =
        of_bank heap o (λ (x : StoreShown). IsRefusedBetween x w.before w.behind s.from s.to s.amount w.over.why) w.over.tells in
        let units : AreOfTwoUnits bank_layout s.from s.to tells.up tells.low tells.high =
        subst (λ (x : Opening). AreOfTwoUnits x.layout s.from s.to tells.up tells.low tells.high) o tells.units in
        told tells.low tells.high (key_unit_low (of_low tells.up (s.from, s.to)) tells.low units.lower)
        (key_unit_low (of_high tells.up (s.from, s.to)) tells.high units.higher) tells.up
        (both_sides tells.up tells.low tells.high units.lower units.higher) w.over.why w.over.passed tells.tells

  -- ---- all shifts of the caller
  end_told : (s : Shift) (e : End) (earlier later : List Receipt) → IsBankShift s → EndsBetween heap k.begun r s e earlier later
      → ShiftEnds t.histories s e (begun_with opening caller ++ earlier) later
  end_told s None earlier later is w = was_short s is earlier later w
  end_told s (Some pair) earlier later is gone = gone

  pub caller_ends : HoldsOfEach (ShiftEnds t.histories) (begun_with opening caller) (first_shifts number caller 500) k.made.ends
  caller_ends =
      subst (λ (rs : List Receipt). HoldsOfEach (ShiftEnds t.histories) rs (first_shifts number caller 500) k.made.ends)
      (append-nil (begun_with opening caller)) (holds_behind (EndsBetween heap k.begun r) (ShiftEnds t.histories) IsBankShift
      (begun_with opening caller)
      (λ s e earlier later is ends. end_told s e earlier later is ends) [] (first_shifts number caller 500) k.made.ends
      (bank_shifts number caller 500) k.made.each)
