-- What a run of the bank comes to, from its stopped store.
use Rattle.std.proofs.Common.{◌≡◌, ℕ, zero, suc, ◌%◌, List, [], ◌∷◌, length, sym, refl, ap, ◌∙◌, subst, arith}
use Rattle.std.specs.Prelude.{◌==◌, if◌then◌else◌, slice_get, slice_index, Some, Ok, Err, IfOk}
use Rattle.std.specs.declared.alloc.AllocError.{AllocError}
use Rattle.std.specs.declared.result.Result.{Result}
use Rattle.std.proofs.lemmas.List.{ext_get_or}
use Rattle.std.proofs.lemmas.Nat.Bits.{bit_at-zero}
use Rattle.std.proofs.lemmas.Option.{same_Some}
use Rattle.mont_base.specs.declared.constants.TheConstants.{FIRST_CLOCK}
use Rattle.mont_base.specs.declared.operation.Receipt.{Receipt}
use Rattle.mont_base.specs.Image.{IsPermitted, IsRecovered, IsWellFormed, clock_of, cut_of, empty_states}
use Rattle.mont_base.specs.Layout.{Shape}
use Rattle.mont_base.specs.State.{State}
use Rattle.mont_image.specs.Picking.{IsPick, picked_at}
use Rattle.plain.specs.declared.contents.Contents.{Contents}
use Rattle.plain.specs.States.{states_of}
use Rattle.plain.proofs.Single.{recovered_once}
use Rattle.core_steps.specs.Fresh.{fresh_words}
use Rattle.heap_rule.specs.declared.rule.Opening.{Opening}
use Rattle.heap.specs.FreshOpening.{fresh_opening}
use Rattle.heap.specs.HeapShown.{HeapShown, CallerShown}
use Rattle.store.specs.Store.{AreAllCallers}
use Rattle.store_stop.specs.declared.headline.Stopped.{Stopped}
use Rattle.store_stop.specs.Headline.{IsBaseOf, IsStopped, cut_states}
use Rattle.bank_job.specs.Bank.{bank_layout}
use Rattle.bank_job.specs.Shifts.{first_shifts}
use Rattle.bank_store.specs.BankCallers.{HaveShifted}
use Rattle.bank_store.specs.BankEnd.{AcceptsImages, HasEnded}
use Rattle.bank_store.specs.BankRun.{IsBankRun, IsBankRunOn, ShiftEnds, begun_with}
use Rattle.bank_store.specs.BankStore.{TellsDurable}
use Rattle.bank_store.specs.Ends.{End, HoldsOfEach}
use Rattle.bank_store.specs.OpenedAccounts.{puts_given}
use Rattle.bank_store.proofs.BankBase.{bank_recovers}
use Rattle.bank_store.proofs.BankOpening.{opens}
use Rattle.bank_store.proofs.BankShifts.{caller_ends}
use Rattle.bank_store.proofs.BankTotal.{total_kept}
use Rattle.bank_store.proofs.BankUnits.{legal_bank}
use Rattle.bank_store.proofs.StoppedBank.{after, ends, names, rows_are}

pub base_is_empty : (heap : HeapShown) (t : Stopped) → heap.opening ≡ fresh_opening bank_layout 4
    → IsBaseOf heap.opening t.base_clock (states_of t.base) → states_of t.base ≡ empty_states bank_layout
base_is_empty heap t o base =
    let there : IsRecovered bank_layout (fresh_words bank_layout) (states_of t.base) =
    subst (λ (x : Opening). IsRecovered x.layout x.words (states_of t.base)) o base.recovered in
    recovered_once bank_layout (fresh_words bank_layout) (states_of t.base) (empty_states bank_layout) there bank_recovers

pub base_is_first : (heap : HeapShown) (t : Stopped) → heap.opening ≡ fresh_opening bank_layout 4
    → IsBaseOf heap.opening t.base_clock (states_of t.base) → t.base_clock ≡ FIRST_CLOCK
base_is_first heap t o base = base.clock_is ∙ ap (λ (x : Opening). clock_of x.words) o

module _
    (heap : HeapShown) (number : ℕ) (base : Contents) (t : Stopped) (o : heap.opening ≡ fresh_opening bank_layout 4)
    (empty : states_of base ≡ empty_states bank_layout)
    (image : List ℕ) (permitted : IsPermitted t.words.cur t.words.dur image) (states : List State)
    (recovered : IsRecovered bank_layout image states) (tells : TellsDurable t t.histories (clock_of image) states) where
  run_of_four : (a b c d : CallerShown) → AreAllCallers heap (a ∷ b ∷ c ∷ d ∷ []) → HaveShifted heap number (a ∷ b ∷ c ∷ d ∷ [])
      → IsStopped bank_layout FIRST_CLOCK base (a ∷ b ∷ c ∷ d ∷ []) t → IsBankRunOn heap number t.histories (clock_of image) states
  run_of_four a b c d are sh st =
      let holds = st.images image permitted in
      let run : IsBankRun number t.histories (clock_of image) states = record {
        legal = legal_bank heap number base t a b c d sh st empty;
        opening = puts_given sh.ends;
        opened = opens heap number base t a b c d sh st empty o;
        ends = ends heap number base t a b c d sh st;
        callers = refl;
        each = each;
        named = names heap number base t a b c d sh st;
        after = λ low. after heap number base t a b c d sh st image permitted low;
        of_store = record {
          heap = heap;
          opening = o;
          base = base;
          empty = empty;
          callers = a ∷ b ∷ c ∷ d ∷ [];
          callers_are = are;
          given = rows_are heap number base t a b c d sh st;
          store = t;
          stopped = st;
          tells = tells;
        };
        begun = holds.accepted.clock_begun;
        last = holds.accepted.clock_last;
        rebuilt =
            (holds.rebuilt states).0 recovered
            ∙ ap (λ (s : List State). cut_states (cut_of image) s t.histories) empty;
        total = total_kept heap number base t a b c d sh st empty o image states permitted recovered;
      } in
      record { run = run; of_heap = refl }
    where
      opening : List Receipt
      opening = puts_given sh.ends

      each : (caller : ℕ) (of_caller : List End) → slice_get (ends heap number base t a b c d sh st) caller ≡ Some of_caller
          → HoldsOfEach (ShiftEnds t.histories) (begun_with (puts_given sh.ends) caller) (first_shifts number caller 500) of_caller
      each zero of_caller at =
          subst (HoldsOfEach (ShiftEnds t.histories) (begun_with (puts_given sh.ends) 0) (first_shifts number 0 500))
          (same_Some (sh.each 0 a refl).made.ends of_caller at)
          (caller_ends heap number base t a b c d sh st empty o 0 a refl (sh.each 0 a refl))
      each (suc zero) of_caller at =
          subst (HoldsOfEach (ShiftEnds t.histories) (begun_with (puts_given sh.ends) 1) (first_shifts number 1 500))
          (same_Some (sh.each 1 b refl).made.ends of_caller at)
          (caller_ends heap number base t a b c d sh st empty o 1 b refl (sh.each 1 b refl))
      each (suc (suc zero)) of_caller at =
          subst (HoldsOfEach (ShiftEnds t.histories) (begun_with (puts_given sh.ends) 2) (first_shifts number 2 500))
          (same_Some (sh.each 2 c refl).made.ends of_caller at)
          (caller_ends heap number base t a b c d sh st empty o 2 c refl (sh.each 2 c refl))
      each (suc (suc (suc zero))) of_caller at =
          subst (HoldsOfEach (ShiftEnds t.histories) (begun_with (puts_given sh.ends) 3) (first_shifts number 3 500))
          (same_Some (sh.each 3 d refl).made.ends of_caller at)
          (caller_ends heap number base t a b c d sh st empty o 3 d refl (sh.each 3 d refl))
      each (suc (suc (suc (suc caller)))) of_caller at = absurd (cc at)

  pub run_of : (callers : List CallerShown) → length callers ≡ 4 → AreAllCallers heap callers → HaveShifted heap number callers
      → IsStopped bank_layout FIRST_CLOCK base callers t → IsBankRunOn heap number t.histories (clock_of image) states
  run_of (a ∷ b ∷ c ∷ d ∷ []) four are sh st = run_of_four a b c d are sh st
  run_of [] four are sh st = absurd (omega (arith, four))
  run_of (a ∷ []) four are sh st = absurd (omega (arith, four))
  run_of (a ∷ b ∷ []) four are sh st = absurd (omega (arith, four))
  run_of (a ∷ b ∷ c ∷ []) four are sh st = absurd (omega (arith, four))
  run_of (a ∷ b ∷ c ∷ d ∷ x ∷ xs) four are sh st = absurd (omega (arith, four))

-- ---- a store that has ended
pub layout_is : (heap : HeapShown) (number : ℕ) (t : Stopped) → HasEnded heap number t → heap.opening ≡ fresh_opening bank_layout 4
    → t.words.layout ≡ bank_layout
layout_is heap number t e o = e.stopped.layout ∙ ap (λ (x : Opening). x.layout) o

pub accepts : (heap : HeapShown) (number : ℕ) (t : Stopped) → HasEnded heap number t → AcceptsImages t
accepts heap number t e image permitted =
    subst (λ (s : Shape). IsWellFormed s image) (sym e.stopped.layout) (e.stopped.images image permitted).accepted

pub bank_run : (heap : HeapShown) (number : ℕ) (t : Stopped) → HasEnded heap number t → heap.opening ≡ fresh_opening bank_layout 4
    → (image : List ℕ) → IsPermitted t.words.cur t.words.dur image → (states : List State) → IsRecovered bank_layout image states
    → TellsDurable t t.histories (clock_of image) states → IsBankRunOn heap number t.histories (clock_of image) states
bank_run heap number t e o image permitted states recovered tells =
    let stopped : IsStopped bank_layout FIRST_CLOCK t.base e.callers t =
    subst (λ (x : Shape × ℕ). IsStopped x.0 x.1 t.base e.callers t)
    (λ i. (ap (λ (y : Opening). y.layout) o i, base_is_first heap t o e.base i)) e.stopped in
    run_of heap number t.base t o (base_is_empty heap t o e.base) image permitted states recovered tells e.callers
    e.shifted.four e.callers_are e.shifted stopped

-- ---- the durable words
none_current : (cur dur : List ℕ) (word : ℕ) → picked_at 0 cur dur word ≡ slice_index dur word
none_current cur dur word =
    ap (λ (bit : ℕ). if bit == 1 then slice_index cur word else slice_index dur word) (bit_at-zero (word % 64))

-- these are what the mask of nothing picks
pub durable_picked : (cur dur image : List ℕ) → length cur ≡ length dur → IsPick 0 cur dur image → image ≡ dur
durable_picked cur dur image long p =
    ext_get_or 0 image dur (p.as_long ∙ long) (λ word inside. p.each word inside ∙ none_current cur dur word)

pub told_durable : (heap : HeapShown) (number : ℕ) (t : Stopped) → HasEnded heap number t → (image : List ℕ)
    → IsPick 0 t.words.cur t.words.dur image → (states : List State) → IsRecovered t.words.layout image states
    → TellsDurable t t.histories (clock_of image) states
told_durable heap number t e image pick states recovered =
    let is : image ≡ t.words.dur =
    durable_picked t.words.cur t.words.dur image (e.stopped.words.current ∙ sym e.stopped.words.durable) pick in
    record {
      histories_are = refl;
      clock_is = ap clock_of is;
      recovered = subst (λ (words : List ℕ). IsRecovered t.words.layout words states) is recovered;
    }

-- ---- the stop
pub all_ended : (heap : HeapShown) (number : ℕ) (callers : List CallerShown) → AreAllCallers heap callers → HaveShifted heap number callers
    → (r : Result Stopped AllocError) → IfOk r (λ (t : Stopped). IsBaseOf heap.opening t.base_clock (states_of t.base))
    → IfOk r (λ (t : Stopped). IsStopped heap.opening.layout t.base_clock t.base callers t) → IfOk r (HasEnded heap number)
all_ended heap number callers are shifted (Ok t) base stopped =
    record { base = base; callers = callers; callers_are = are; shifted = shifted; stopped = stopped }
all_ended heap number callers are shifted (Err x) base stopped = tt
