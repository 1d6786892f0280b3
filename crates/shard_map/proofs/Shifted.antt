-- What two puts that were carried out as a pair are as a shift, and what they are where they
-- weren't.
use Rattle.std.proofs.Common.{◌≡◌, ℕ, ◌+◌, ◌≤◌, Bool, true, false, cond, List, [], ◌∷◌, ◌++◌, refl, sym, ◌∙◌, subst, arith}
use Rattle.std.specs.Prelude.{nat_lt, Option, Some, None, Err}
use Rattle.std.proofs.lemmas.Bool.Decides.{nat_tests}
use Rattle.mont_base.specs.declared.constants.TheConstants.{LAST}
use Rattle.mont_base.specs.declared.operation.Op.{Op}
use Rattle.mont_base.specs.declared.operation.Receipt.{Receipt}
use Rattle.mont_base.specs.declared.record.Change.{Change}
use Rattle.mont_base.specs.declared.refusal.Which.{Which}
use Rattle.mont_base.specs.declared.refusal.Which.TheVariants as ends
use Rattle.mont_base.specs.State.{Key}
use Rattle.core_steps.specs.declared.parts.CallerPart.{CallerPart}
use Rattle.heap.specs.GateAsked.{IsAskedOften}
use Rattle.heap.specs.HeapShown.{HeapShown, CallerShown}
use Rattle.slots.specs.Books.{RegionShown}
use Rattle.structure_call.specs.Calling.{HasAnsweredCall}
use Rattle.structure_call.specs.Planning.{first_at_end}
use Rattle.shard_map.specs.declared.pair_carrying.CarriedPair.{CarriedPair}
use Rattle.shard_map.specs.declared.pair_carrying.PlannedChange.{PlannedChange}
use Rattle.shard_map.specs.declared.pair_carrying.PairUncarried.{PairUncarried}
use Rattle.shard_map.specs.declared.pair_carrying.PairUncarried.TheVariants.{Full, Cut}
use Rattle.shard_map.specs.declared.shift_refusal.ShiftRefusal.{ShiftRefusal}
use Rattle.shard_map.specs.declared.shift_refusal.ShiftRefusal.TheVariants.{SameUnit, Halted, Missing, Short, Over, CountEnd, Memory}
use Rattle.shard_map.specs.declared.shift_refusal.ShiftRefusal.TheVariants as refusals
use Rattle.shard_map.specs.MapShift.{ArePlanned, CannotShift, HasShifted, HaveAnswered, LeavesShift, WereNoted, end_of, end_of_pair, first_of, receipts_kept, refusal_of, was_checked, was_cut}
use Rattle.shard_map.specs.MovedNumbers.{of_high, of_low}
use Rattle.shard_map.specs.PairCarrying.{HasCarriedOne, HasCarriedPair, LeavesPairUncarried}
use Rattle.shard_map.specs.PairCarrying as carrying

-- ---- numbers
-- where no number of a pair is at its end, none of each is, and there is a second call
module _ (q : CallerPart) (low high : RegionShown) (low_change high_change : Change)
    (none : end_of_pair q low high low_change high_change ≡ None) where
  pub second_call : q.calls + 1 ≤ LAST
  second_call = by (nat_lt LAST (q.calls + 1)) refl none
    where
      by : (t : Bool) → t ≡ nat_lt LAST (q.calls + 1)
          → cond t (Some ends.Call) (first_of (end_of low low_change) (end_of high high_change)) ≡ None → q.calls + 1 ≤ LAST
      by true is e = absurd (cc)
      by false is e = grind (arith, nat_tests)

  ends_left : first_of (end_of low low_change) (end_of high high_change) ≡ None
  ends_left = by (nat_lt LAST (q.calls + 1)) none
    where
      by : (t : Bool) → cond t (Some ends.Call) (first_of (end_of low low_change) (end_of high high_change)) ≡ None
          → first_of (end_of low low_change) (end_of high high_change) ≡ None
      by true e = absurd (cc)
      by false e = e

  first_none : (a b : Option Which) → first_of a b ≡ None → (a ≡ None) × (b ≡ None)
  first_none None b e = (refl, e)
  first_none (Some which) b e = absurd (cc)

  at_first : (r : RegionShown) (change : Change) → end_of r change ≡ None → first_at_end q r (change ∷ []) ≡ None
  at_first r change e = by (nat_lt LAST q.calls) refl
    where
      by : (t : Bool) → t ≡ nat_lt LAST q.calls → cond t (Some ends.Call) (end_of r change) ≡ None
      by true is = let low_calls = second_call in absurd (grind (arith, nat_tests))
      by false is = e

  pub low_none : first_at_end q low (low_change ∷ []) ≡ None
  low_none = at_first low low_change (first_none (end_of low low_change) (end_of high high_change) ends_left).0

  pub high_none : first_at_end q high (high_change ∷ []) ≡ None
  high_none = at_first high high_change (first_none (end_of low low_change) (end_of high high_change) ends_left).1

-- ---- shifted
module _ (heap : HeapShown) (low low_now high high_now : RegionShown) (q r : CallerShown) (low_plan high_plan : PlannedChange) where
  module _ (both : CarriedPair) (k : HasCarriedPair heap low low_now high high_now q r low_plan high_plan both) where
    have_answered : HaveAnswered heap low low_now high high_now q r both.low.receipt both.high.receipt
    have_answered = record {
      between = k.between;
      lower = subst (λ (op : Op). HasAnsweredCall heap low low_now q k.between op both.low.receipt) (sym k.lower.op) k.lower.answered;
      higher = subst (λ (op : Op). HasAnsweredCall heap high high_now k.between r op both.high.receipt) (sym k.higher.op)
          k.higher.answered;
      epoch = k.epoch;
      next_call = k.next_call;
    }

    pub has_shifted : (up : Bool) (from to : Key) (amount : ℕ) → ArePlanned up low high from to amount low_plan high_plan
        → HasShifted heap up low low_now high high_now q r from to amount
        (of_low up (both.low.receipt, both.high.receipt), of_high up (both.low.receipt, both.high.receipt))
    has_shifted true from to amount planned =
        let m = planned.move in
        record {
          answered = have_answered;
          moved = record {
            have = m.have;
            had = m.had;
            enough = m.enough;
            short = m.short;
            fits = m.fits;
            less = k.lower.op ∙ m.less;
            out_of = k.lower.reply ∙ m.out_of;
            more = k.higher.op ∙ m.more;
            into_what = k.higher.reply ∙ m.into_what;
          };
        }
    has_shifted false from to amount planned =
        let m = planned.move in
        record {
          answered = have_answered;
          moved = record {
            have = m.have;
            had = m.had;
            enough = m.enough;
            short = m.short;
            fits = m.fits;
            less = k.higher.op ∙ m.less;
            out_of = k.higher.reply ∙ m.out_of;
            more = k.lower.op ∙ m.more;
            into_what = k.lower.reply ∙ m.into_what;
          };
        }

  -- ---- not shifted
  pub left_shift : (up : Bool) (from to : Key) (amount : ℕ) (why : PairUncarried)
      → ArePlanned up low high from to amount low_plan high_plan → LeavesPairUncarried heap low low_now high high_now q r low_plan why
      → LeavesShift heap up low low_now high high_now q r from to amount (refusal_of why)
  left_shift up from to amount (Full unit need free clock) planned k = k
  left_shift up from to amount (Cut unit None) planned k = k
  left_shift up from to amount (Cut unit (Some carried)) planned k = (
    k.0,
    record {
      between = k.1.between;
      lower = subst (λ (op : Op). HasAnsweredCall heap low low_now q k.1.between op carried.receipt) (sym k.1.lower.op) k.1.lower.answered;
      higher = k.1.higher;
      within = k.1.within;
    },
    record { low_plan = low_plan; high_plan = high_plan; planned = planned; op = k.1.lower.op; reply = k.1.lower.reply },
  )

-- ---- a gate that wasn't asked
pub asks_nothing : {G : Type 0} (cuts : G → ℕ) (endless : G → Bool) (x : G) → IsAskedOften cuts endless x x false
asks_nothing cuts endless x = record {
  later = omega arith;
  kept = λ e. refl;
  counted = λ e. absurd (cc);
  same = refl;
  passes = λ e. refl;
}

-- ---- a refusal before memory is taken
module _ (heap : HeapShown) (up : Bool) (low low_now high high_now : RegionShown) (q r : CallerShown) (from to : Key) (amount : ℕ) where
  pub noted_shift : (why : ShiftRefusal) → CannotShift up low high q.known.part from to amount why
      → WereNoted heap low low_now high high_now q r → LeavesShift heap up low low_now high high_now q r from to amount why
  noted_shift (SameUnit unit) k n = absurd k
  noted_shift (Halted unit by) k n = (k, n)
  noted_shift (Missing key) k n = (k, n)
  noted_shift (Short have) k n = (k, n)
  noted_shift (Over have) k n = (k, n)
  noted_shift (CountEnd which) k n = (k, n)
  noted_shift Memory k n = absurd k
  noted_shift (refusals.Full unit need free clock) k n = absurd k
  noted_shift (refusals.Cut unit first) k n = absurd k

module _ (T : Type 0) (up : Bool) (low high : RegionShown) (q : CallerPart) (from to : Key) (amount : ℕ) where
  -- no gate cut, no receipt is kept, and memory wasn't asked for
  pub before_memory : (why : ShiftRefusal) → CannotShift up low high q from to amount why
      → (was_cut {T = T} (Err why) ≡ false) × (receipts_kept why ≡ []) × (was_checked {T = T} (Err why) ≡ false)
  before_memory (SameUnit unit) k = absurd k
  before_memory (Halted unit by) k = (refl, refl, refl)
  before_memory (Missing key) k = (refl, refl, refl)
  before_memory (Short have) k = (refl, refl, refl)
  before_memory (Over have) k = (refl, refl, refl)
  before_memory (CountEnd which) k = (refl, refl, refl)
  before_memory Memory k = absurd k
  before_memory (refusals.Full unit need free clock) k = absurd k
  before_memory (refusals.Cut unit first) k = absurd k

-- ---- a refusal after that is one of the pair
pub cut_alike : (T U : Type 0) (why : PairUncarried) → was_cut {T = T} (Err (refusal_of why)) ≡ carrying.was_cut {T = U} (Err why)
cut_alike T U (Full unit need free clock) = refl
cut_alike T U (Cut unit first) = refl

pub kept_alike : (why : PairUncarried) → receipts_kept (refusal_of why) ≡ carrying.receipts_kept why
kept_alike (Full unit need free clock) = refl
kept_alike (Cut unit first) = refl

-- both receipts, the lower unit's first
pub in_order_kept : (up : Bool) (a b : Receipt) (kept : List Receipt)
    → kept ++ a ∷ b ∷ []
    ≡ kept ++ of_low up (of_low up (a, b), of_high up (a, b)) ∷ of_high up (of_low up (a, b), of_high up (a, b)) ∷ []
in_order_kept true a b kept = refl
in_order_kept false a b kept = refl
